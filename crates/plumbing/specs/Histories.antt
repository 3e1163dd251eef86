-- Histories. A history is a list: what has passed by a consumer from the left, fed to it or skipped because it was full.
use Rattle.std.specs.Prelude.{◌≡◌, List, ◌++◌}

-- whatever follows h, it is the same as h alone
abbrev pub Over : {I : Type 0} → (List I → List I → Type 0) → List I → Type 0
Over {I} Same h = (t : List I) → Same (h ++ t) h

-- being the same is an equivalence, and stays so whatever follows
pub record Sames {I : Type 0} (Same : List I → List I → Type 0) : Type 0 where
  pub refls : (h : List I) → Same h h
  pub syms : (h k : List I) → Same h k → Same k h
  pub joins : (h k l : List I) → Same h k → Same k l → Same h l
  pub more : (h k t : List I) → Same h k → Same (h ++ t) (k ++ t)

-- the two hold of the same pairs of histories
abbrev pub Twin : {I : Type 0} → (List I → List I → Type 0) → (List I → List I → Type 0) → Type 0
Twin {I} T U = (h k : List I) → (T h k → U h k) × (U h k → T h k)

-- the two say the same of every result
abbrev pub Alike : {R B I : Type 0} → (R → B → List I → List I → Type 0) → (R → B → List I → List I → Type 0) → Type 0
Alike {R} {B} {I} T U = (x : R) (b : B) (h g : List I) → (T x b h g → U x b h g) × (U x b h g → T x b h g)

-- what is said of a stretch of h on the board b is said of it on c
abbrev pub Keeps : {R B I : Type 0} → (R → B → List I → List I → Type 0) → B → B → List I → Type 0
Keeps {R} {B} {I} T b c h = (x : R) (k g z : List I) → k ++ (g ++ z) ≡ h → T x b k g → T x c k g
