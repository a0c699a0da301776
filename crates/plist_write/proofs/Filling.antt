-- Replacing references by numbers, one after another.
use Rattle.std.proofs.Common.{◌≡◌, ℕ, ◌+◌, ◌<◌, ◌≤◌, List, [], ◌∷◌, ◌++◌, length, get_or, drop, take, set, sym, ap, ◌∙◌, arith, length-append, append_assoc}
use Rattle.std.proofs.lemmas.List.{drop_more, set_at, get_or_at, take-append-drop, length-take-le, drop_all, append-nil, length-drop}

-- The indices from `first` to i have these numbers. Then come the references that were there at the
-- start, and then others.
pub record IsFilling (first i : ℕ) (start now done : List ℕ) : Type 0 where
  pub behind : List ℕ
  pub as_many : first + length done ≡ i
  pub now_is : now ≡ (take first start ++ done) ++ (drop i start ++ behind)

pub filling-start : (first : ℕ) (start : List ℕ) → first ≤ length start → IsFilling first first start start []
filling-start first start h = record {
  behind = [];
  as_many = omega arith;
  now_is = sym (take-append-drop first start) ∙ ap (λ xs. take first start ++ xs) (sym (append-nil (drop first start))) ∙ ap (λ xs. xs ++ (drop first start ++ [])) (sym (append-nil (take first start)));
}

module _ (first i : ℕ) (start now done : List ℕ) (h : first ≤ length start) (filling : IsFilling first i start now done) where
  front_long : length (take first start ++ done) ≡ i
  front_long =
      omega (arith, length-append (take first start) done, length-take-le first start h, filling.as_many)

  -- no reference was removed
  pub filling-long : length start ≤ length now
  filling-long =
      omega (arith, front_long, length-drop i start, length-append (drop i start) filling.behind, ap length filling.now_is ∙ length-append (take first start ++ done) (drop i start ++ filling.behind))

  split : (d : ℕ) → i < length start → now ≡ (take first start ++ done) ++ (get_or start i d ∷ (drop (i + 1) start ++ filling.behind))
  split d below =
      filling.now_is ∙ ap (λ xs. (take first start ++ done) ++ (xs ++ filling.behind)) (drop_more start i d below)

  -- the reference at i is that of the start
  pub filling-object : (d : ℕ) → i < length start → get_or now i d ≡ get_or start i 0
  filling-object d below =
      ap (λ xs. get_or xs i d) (split 0 below) ∙ get_or_at (take first start ++ done) (get_or start i 0) (drop (i + 1) start ++ filling.behind) d i front_long

  pub filling-next : (grown more : List ℕ) (n : ℕ) → i < length start → grown ≡ now ++ more → IsFilling first (i + 1) start (set grown i n) (done ++ (n ∷ []))
  filling-next grown more n below grows = record {
    behind = filling.behind ++ more;
    as_many = let a = filling.as_many in let b = length-append done (n ∷ []) in omega arith;
    now_is =
        let left = drop (i + 1) start in
        let x = get_or start i 0 in
        let front = take first start ++ done in
        let joined : grown ≡ front ++ (x ∷ ((left ++ filling.behind) ++ more)) = grows ∙ ap (λ xs. xs ++ more) (split 0 below) ∙ append_assoc front (x ∷ (left ++ filling.behind)) more in
        ap (λ xs. set xs i n) joined ∙ set_at front x ((left ++ filling.behind) ++ more) n i front_long ∙ ap (λ xs. front ++ (n ∷ xs)) (append_assoc left filling.behind more) ∙ sym (append_assoc front (n ∷ []) (left ++ (filling.behind ++ more))) ∙ ap (λ xs. xs ++ (left ++ (filling.behind ++ more))) (append_assoc (take first start) done (n ∷ []));
  }

  -- at the end no reference of the start remains
  pub filling-end : length start ≤ i → now ≡ take first start ++ (done ++ filling.behind)
  filling-end past =
      filling.now_is ∙ ap (λ xs. (take first start ++ done) ++ (xs ++ filling.behind)) (drop_all i start past) ∙ append_assoc (take first start) done filling.behind
