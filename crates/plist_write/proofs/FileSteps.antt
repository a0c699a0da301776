-- A file that is written in parts: the header, the objects, and its end.
use Rattle.std.proofs.Common.{◌≡◌, ℕ, ◌+◌, ◌<◌, ◌≤◌, List, [], ◌∷◌, ◌++◌, length, Result, Ok, Err, refl, ap, ◌∙◌, arith, length-append}
use Rattle.std.specs.Prelude.{All}
use Rattle.std.specs.List.{concat, AllByRecursion}
use Rattle.std.proofs.lemmas.List.Elements.{All-from_recursion}
use Rattle.plist_object.specs.Layout.{header}
use Rattle.plist_object.specs.Spelling.{least_width, references}
use Rattle.plist_object.specs.Files.{starts}
use Rattle.plist_object.proofs.Files.{length-starts}
use Rattle.plist_write.specs.declared.faults.WriteFault.{WriteFault}
use Rattle.plist_value.specs.Plist.{Plist}
use Rattle.plist_write.specs.Tree.{preorder}
use Rattle.plist_write.specs.Canonical.{canon, file_of, objects_of, trailer_octets}
use Rattle.plist_write.specs.Sending.{IsWritten}
use Rattle.plist_write.specs.BufferedSink.{SinkState, Emits, end_of}
use Rattle.plist_write.proofs.Going.{Emits_then, Emits_stop, Emits_same, Emits_put, count_then, is_written, is_refused}

pub file-length : (objects : List (List ℕ)) → length (file_of objects) ≡ 8 + (length (concat objects) + (length (references (least_width (8 + length (concat objects))) (starts 8 objects)) + 32))
file-length objects =
    let offset = 8 + length (concat objects) in
    let entries = references (least_width offset) (starts 8 objects) in
    let tail = trailer_octets (length objects) offset in
    length-append header (concat objects ++ (entries ++ tail)) ∙ ap (λ n. 8 + n) (length-append (concat objects) (entries ++ tail)) ∙ ap (λ n. 8 + (length (concat objects) + n)) (length-append entries tail)

-- no canonical file is empty
pub canon-some : (v : Plist) → 0 < length (canon v)
unfolding canon
canon-some v = let size = file-length (objects_of (preorder v)) in omega (arith, size)

starts-under : (bound p : ℕ) (objects : List (List ℕ)) → p + length (concat objects) ≤ bound → AllByRecursion (λ q. q ≤ bound) (starts p objects)
starts-under bound p [] h = tt
starts-under bound p (o ∷ objects) h =
    (omega (arith, length-append o (concat objects)), starts-under bound (p + length o) objects (omega (arith, length-append o (concat objects))))

-- no offset is after the end of the objects
pub starts-before : (bound p : ℕ) (objects : List (List ℕ)) → p + length (concat objects) ≤ bound → All (λ q. q ≤ bound) (starts p objects)
starts-before bound p objects h = All-from_recursion (λ q. q ≤ bound) (starts p objects) (starts-under bound p objects h)

pub file-parts : (objects : List (List ℕ)) → header ++ (concat objects ++ end_of (starts 8 objects) (8 + length (concat objects))) ≡ file_of objects
file-parts objects =
    let offset = 8 + length (concat objects) in
    ap (λ n. header ++ (concat objects ++ (references (least_width offset) (starts 8 objects) ++ trailer_octets n offset))) (length-starts 8 objects)

-- the header is in the buffer, and then the other bytes are written
after-header : {T : Type 0} (octets : List ℕ) (p r : SinkState) (result : Result T WriteFault) → p.waiting ≡ header → Emits octets p r result → Emits (header ++ octets) (record p { waiting = [] }) r result
after-header octets p r result begun emits =
    Emits_then header octets (record p { waiting = [] }) p r tt result (Emits_put header p.waiting (record p { waiting = [] }) begun) emits

module _ (objects : List (List ℕ)) (p : SinkState) (begun : p.waiting ≡ header) (first : p.sent ≡ 0) where
  abbrev ending : List ℕ
  ending = end_of (starts 8 objects) (8 + length (concat objects))

  whole : {T : Type 0} (r : SinkState) (result : Result T WriteFault) → Emits (concat objects ++ ending) p r result → Emits (file_of objects) (record p { waiting = [] }) r result
  whole r result emits =
      Emits_same (header ++ (concat objects ++ ending)) (file_of objects) (record p { waiting = [] }) r result (file-parts objects) (after-header (concat objects ++ ending) p r result begun emits)

  -- writing the objects failed
  pub file-stops : {T : Type 0} (r : SinkState) (fault : WriteFault) → Emits {T = T} (concat objects) p r (Err fault) → IsWritten (file_of objects) p.taken r.taken p.failures r.failures (Err fault)
  file-stops {T} r fault emits =
      is_refused {T = T} (file_of objects) (record p { waiting = [] }) r fault refl first (whole r (Err fault) (Emits_stop {T = T} {U = T} (concat objects) ending p r fault emits))

  module _ {T : Type 0} (q : SinkState) (offsets : List ℕ) (value : T) (are : offsets ≡ starts 8 objects) (emits : Emits (concat objects) p q (Ok value)) where
    -- the end is written at the offset that its trailer gives
    pub offset-is : q.sent + length q.waiting ≡ 8 + length (concat objects)
    offset-is = let n = count_then (concat objects) p q value emits in let m = ap length begun in omega (arith, n, m, first)

    pub ending-is : end_of offsets (q.sent + length q.waiting) ≡ end_of (starts 8 objects) (8 + length (concat objects))
    ending-is = ap (λ ps. end_of ps (q.sent + length q.waiting)) are ∙ ap (end_of (starts 8 objects)) offset-is

    both : {U : Type 0} (r : SinkState) (result : Result U WriteFault) → Emits (end_of offsets (q.sent + length q.waiting)) q r result → Emits (file_of objects) (record p { waiting = [] }) r result
    both r result last =
        whole r result (Emits_then (concat objects) ending p q r value result emits (Emits_same (end_of offsets (q.sent + length q.waiting)) ending q r result ending-is last))

    -- writing the end failed
    pub file-ends : {U : Type 0} (r : SinkState) (fault : WriteFault) → Emits {T = U} (end_of offsets (q.sent + length q.waiting)) q r (Err fault) → IsWritten (file_of objects) p.taken r.taken p.failures r.failures (Err fault)
    file-ends {U} r fault last = is_refused {T = U} (file_of objects) (record p { waiting = [] }) r fault refl first (both r (Err fault) last)

    pub file-written : {U : Type 0} (r : SinkState) (done : U) → r.waiting ≡ [] → Emits (end_of offsets (q.sent + length q.waiting)) q r (Ok done) → IsWritten (file_of objects) p.taken r.taken p.failures r.failures (Ok r.sent)
    file-written r done none last = is_written (file_of objects) (record p { waiting = [] }) r done refl first none (both r (Ok done) last)
