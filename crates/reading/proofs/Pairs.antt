-- Two lists, place by place. Assumes nothing.
use Rattle.std.proofs.Common.{List, [], ◌∷◌, ◌++◌}
use Rattle.reading.specs.Books.{Pairwise}

module _ {X Y : Type 0} where
  pub pairwise_push : (R : X → Y → Type 0) (xs : List X) (ys : List Y) {x : X} {y : Y} → Pairwise R xs ys → R x y → Pairwise R (xs ++ x ∷ []) (ys ++ y ∷ [])
  pairwise_push R [] [] h r = (r, tt)
  pairwise_push R [] (y ∷ ys) h r = absurd h
  pairwise_push R (x ∷ xs) [] h r = absurd h
  pairwise_push R (x ∷ xs) (y ∷ ys) h r = (h.0, pairwise_push R xs ys h.1 r)

  pub pairwise_weaker : (R S : X → Y → Type 0) → ((x : X) (y : Y) → R x y → S x y) → (xs : List X) (ys : List Y) → Pairwise R xs ys → Pairwise S xs ys
  pairwise_weaker R S f [] [] h = tt
  pairwise_weaker R S f [] (y ∷ ys) h = absurd h
  pairwise_weaker R S f (x ∷ xs) [] h = absurd h
  pairwise_weaker R S f (x ∷ xs) (y ∷ ys) h = (f x y h.0, pairwise_weaker R S f xs ys h.1)
