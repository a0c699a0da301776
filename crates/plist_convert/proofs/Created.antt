-- A file that is created at its first write.
use Rattle.std.proofs.Common.{ap, arith, refl, List, None, Option, Some, [], ◌∷◌, ℕ, ◌≡◌, ◌∙◌}
use Rattle.std.specs.Prelude.{◌<◌, ◌≤◌, length, take, true}
use Rattle.std.proofs.lemmas.List.{length-take-le}
use Rattle.plist_convert.specs.Files.{FileName, Files, SameFiles}
use Rattle.plist_convert.specs.Opens.{HasWritten, MayEmpty, Puts, is_begun}

-- no file changes, and then at most this one is emptied
pub same_emptied : (path : FileName) (f m n : Option Files) → SameFiles f m → MayEmpty path m n → MayEmpty path f n
same_emptied path None m n same may = tt
same_emptied path (Some old) None n same may = absurd same
same_emptied path (Some old) (Some mid) None same may = absurd may
same_emptied path (Some old) (Some mid) (Some new) same may =
    (λ differs. may.0 (λ is. differs (is ∙ same path)), λ other beside. may.1 other beside ∙ same other)

-- a file that is created or emptied is empty
pub puts_empty : (path : FileName) (before after : Option Files) → Puts path (Some []) before after → MayEmpty path before after
puts_empty path None after puts = tt
puts_empty path (Some old) None puts = absurd puts
puts_empty path (Some old) (Some new) puts = (λ differs. puts.0, puts.1)

-- what a writer has written is known of the files before too
written_before : (f m : Option Files) (contents : Option (List ℕ)) (octets : List ℕ) → SameFiles f m → HasWritten m contents octets
    → HasWritten f contents octets
written_before None m contents octets same has = tt
written_before (Some old) None contents octets same has = absurd same
written_before (Some old) (Some mid) contents octets same has = has

-- a file is begun once its writer has written the start of a piece
begun_with : (files : Option Files) (contents : Option (List ℕ)) (taken : ℕ) (piece : List ℕ)
    → HasWritten files contents (take taken piece) → 0 < taken → taken ≤ length piece → is_begun files (Some contents) ≡ true
begun_with None contents taken piece has some within = refl
begun_with (Some at) None taken piece has some within = absurd cc
begun_with (Some at) (Some []) taken piece has some within =
    let none : [] ≡ take taken piece = cc in
    let zero : 0 ≡ taken = ap length none ∙ length-take-le taken piece within in
    absurd (omega (arith, zero, some))
begun_with (Some at) (Some (x ∷ xs)) taken piece has some within = refl

pub begun_after : (f m : Option Files) (contents : Option (List ℕ)) (taken : ℕ) (piece : List ℕ) → SameFiles f m
    → HasWritten m contents (take taken piece) → 0 < taken → taken ≤ length piece → is_begun f (Some contents) ≡ true
begun_after f m contents taken piece same has some within =
    begun_with f contents taken piece (written_before f m contents (take taken piece) same has) some within
