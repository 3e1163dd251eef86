-- The interleaving of two lists.
use Rattle.std.specs.Prelude.{Bool, true, false, List, [], ◌∷◌}

-- the first of the one, the first of the other, and so on in turn; once one is used up the rest of the other follows
abbrev pub alternated : {I : Type 0} → List I → List I → List I
alternated [] ys = ys
alternated (x ∷ xs) [] = x ∷ xs
alternated (x ∷ xs) (y ∷ ys) = x ∷ (y ∷ alternated xs ys)

-- the first list starts, or the second where the flag is set
abbrev pub interleaved : {I : Type 0} → Bool → List I → List I → List I
interleaved false xs ys = alternated xs ys
interleaved true xs ys = alternated ys xs
