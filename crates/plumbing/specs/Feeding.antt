-- What a folder is once it was fed a list, and the board with it.
use Rattle.std.specs.Prelude.{◌≡◌, ◌+◌, ◌≤◌, Bool, true, false, List, [], ◌∷◌, ◌++◌, length, vec_len}
use Rattle.plumbing.specs.declared.board.Board.{Board}
use Rattle.plumbing.specs.declared.folder.Folder.{Ghosts as Folding}
use Rattle.plumbing.specs.Histories.{Alike, Keeps, Twin}

-- a folder fed from the front until it is full or nothing is left
abbrev pub feeds : {F B I : Type 0} → (F → B → I → F × B) → (F → B → Bool) → F → B → List I → F × B
feeds step filled f b [] = (f, b)
feeds step filled f b (x ∷ xs) = elim (filled f b) [ true ↦ (f, b) | false ↦ feeds step filled (step f b x).0 (step f b x).1 xs ]

-- a folder, opened after h and given g, was given the items too: the board was b and is c
pub record Folded {R B I : Type 0} (Covers : R → B → List I → List I → Type 0) (Open : B → List I → List I → Type 0) (b c : B) (items h g : List I) : Type 0 where
  pub opens : Open c h (g ++ items)
  pub keeps : Keeps Covers b c h

-- the folder s on the board b was fed the items, or as many as it took, and is now t on c
pub record FedAll {F I S R : Type 0} (fold : Folding F I S R) (s t : F) (b c : Board S) (items : List I) : Type 0 where
  pub folder : t ≡ (feeds fold.step fold.filled s b items).0
  pub board : c ≡ (feeds fold.step fold.filled s b items).1
  pub count : vec_len c.slots ≡ vec_len b.slots
  pub enough : fold.room s ≤ fold.room t + length items
  pub folds : (h g : List I) → length items ≤ fold.room s → fold.Open s b h g → Folded (fold.Covers s) (fold.Open t) b c items h g
  pub leaves : (a : Board S) (h : List I) → fold.Fed t a h → fold.Fed s a h
  pub covers : Alike (fold.Covers t) (fold.Covers s)
  pub same : Twin (fold.Same t) (fold.Same s)
