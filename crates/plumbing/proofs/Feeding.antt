-- A folder that is fed a list item by item, or two lists one after the other. Assumes nothing.
use Rattle.std.proofs.Common.{◌≡◌, ◌+◌, ◌≤◌, Bool, true, false, List, [], ◌∷◌, ◌++◌, length, vec_len, sym, refl, ap, ◌∙◌, subst, append_assoc, append-nil, arith, length-append}
use Rattle.plumbing.specs.declared.board.Board.{Board}
use Rattle.plumbing.specs.declared.folder.Folder.{Ghosts as Folding}
use Rattle.plumbing.specs.Histories.{Over, Sames, Twin, Alike, Keeps}
use Rattle.plumbing.specs.Feeding.{feeds, Folded, FedAll}

-- what is kept under one covering is kept under another that is alike
pub keeps_alike : {R B I : Type 0} {T U : R → B → List I → List I → Type 0} {b c : B} {h : List I} → Alike T U → Keeps T b c h → Keeps U b c h
keeps_alike {b = b} {c = c} a kept = λ x k g z e told. (a x c k g).0 (kept x k g z e ((a x b k g).1 told))

-- alike and twin go on through a third
alike_trans : {R B I : Type 0} {T U W : R → B → List I → List I → Type 0} → Alike T U → Alike U W → Alike T W
alike_trans p q = λ x b h g. (λ t. (q x b h g).0 ((p x b h g).0 t), λ t. (p x b h g).1 ((q x b h g).1 t))

twin_trans : {I : Type 0} {T U W : List I → List I → Type 0} → Twin T U → Twin U W → Twin T W
twin_trans p q = λ h k. (λ t. (q h k).0 ((p h k).0 t), λ t. (p h k).1 ((q h k).1 t))

module _ {F B I : Type 0} (step : F → B → I → F × B) (filled : F → B → Bool) where
  -- a folder that is full is fed nothing
  pub feeds_full : (f : F) (b : B) (l : List I) → filled f b ≡ true → feeds step filled f b l ≡ (f, b)
  feeds_full f b [] e = refl
  feeds_full f b (x ∷ l) e = subst (λ (d : Bool). elim d [ true ↦ (f, b) | false ↦ feeds step filled (step f b x).0 (step f b x).1 l ] ≡ (f, b)) (sym e) refl

  -- one that is not is fed the first
  feeds_next : (f : F) (b : B) (x : I) (l : List I) → filled f b ≡ false → feeds step filled f b (x ∷ l) ≡ feeds step filled (step f b x).0 (step f b x).1 l
  feeds_next f b x l e = subst (λ (d : Bool). elim d [ true ↦ (f, b) | false ↦ feeds step filled (step f b x).0 (step f b x).1 l ] ≡ feeds step filled (step f b x).0 (step f b x).1 l) (sym e) refl

  -- two lists are fed one after the other
  feeds_append : (f : F) (b : B) (xs ys : List I) → feeds step filled f b (xs ++ ys) ≡ feeds step filled (feeds step filled f b xs).0 (feeds step filled f b xs).1 ys
  feeds_append f b [] ys = refl
  feeds_append f b (x ∷ xs) ys = one (filled f b) refl (feeds_append (step f b x).0 (step f b x).1 xs ys)
    where
      one : (d : Bool) → filled f b ≡ d → feeds step filled (step f b x).0 (step f b x).1 (xs ++ ys) ≡ feeds step filled (feeds step filled (step f b x).0 (step f b x).1 xs).0 (feeds step filled (step f b x).0 (step f b x).1 xs).1 ys → (elim d as (λ (v : Bool). F × B) [ true ↦ (f, b) | false ↦ feeds step filled (step f b x).0 (step f b x).1 (xs ++ ys) ]) ≡ feeds step filled (elim d as (λ (v : Bool). F × B) [ true ↦ (f, b) | false ↦ feeds step filled (step f b x).0 (step f b x).1 xs ]).0 (elim d as (λ (v : Bool). F × B) [ true ↦ (f, b) | false ↦ feeds step filled (step f b x).0 (step f b x).1 xs ]).1 ys
      one true e more = sym (feeds_full f b ys e)
      one false e more = more

module _ {F I S R : Type 0} (fold : Folding F I S R) where
  -- the folder s was on the board b0 with the items to come; it is now t on b, and left are to come
  pub record Midway (s t : F) (b0 b : Board S) (items left : List I) : Type 0 where
    pub fed : List I
    pub parts : fed ++ left ≡ items
    pub alike_feeds : feeds fold.step fold.filled s b0 items ≡ feeds fold.step fold.filled t b left
    pub count : vec_len b.slots ≡ vec_len b0.slots
    pub enough : fold.room s ≤ fold.room t + length fed
    pub covers : Alike (fold.Covers t) (fold.Covers s)
    pub same : Twin (fold.Same t) (fold.Same s)
    pub leaves : (a : Board S) (h : List I) → fold.Fed t a h → fold.Fed s a h
    pub opens : (h g : List I) → length items ≤ fold.room s → fold.Open s b0 h g → fold.Open t b h (g ++ fed)
    pub keeps : (h g : List I) → length items ≤ fold.room s → fold.Open s b0 h g → Keeps (fold.Covers s) b0 b h

  pub midway_start : (s : F) (b : Board S) (items : List I) → Midway s s b b items items
  midway_start s b items = record {
    fed = [];
    parts = refl;
    alike_feeds = refl;
    count = refl;
    enough = omega arith;
    covers = λ x b h g. (λ t. t, λ t. t);
    same = λ h k. (λ t. t, λ t. t);
    leaves = λ a h t. t;
    opens = λ h g n o. rw append-nil o;
    keeps = λ h g n o x k f z e t. t;
  }

  module _ {s t : F} {b0 b : Board S} {items left : List I} (m : Midway s t b0 b items left) where
    -- one item more
    pub midway_more : {u : F} {c : Board S} {x : I} {rest : List I} → left ≡ x ∷ rest → fold.filled t b ≡ false
        → (u ≡ (fold.step t b x).0) × (c ≡ (fold.step t b x).1) → vec_len c.slots ≡ vec_len b.slots → fold.room t ≤ fold.room u + 1
        → ((h g : List I) → 1 ≤ fold.room t → fold.Open t b h g → fold.Open u c h (g ++ (x ∷ [])))
        → ((h g : List I) → 1 ≤ fold.room t → fold.Open t b h g → Keeps (fold.Covers t) b c h)
        → ((a : Board S) (h : List I) → fold.Fed u a h → fold.Fed t a h)
        → Alike (fold.Covers u) (fold.Covers t)
        → Twin (fold.Same u) (fold.Same t)
        → Midway s u b0 c items rest
    midway_more {u = u} {c = c} {x = x} {rest = rest} split unfilled is count roomy opens keeps leaves covers same =
        let fs = feeds fold.step fold.filled in
        let long : length m.fed + length (x ∷ rest) ≡ length items = sym (length-append m.fed (x ∷ rest)) ∙ ap (λ l. length (m.fed ++ l)) (sym split) ∙ ap length m.parts in
        let one : length items ≤ fold.room s → 1 ≤ fold.room t = λ n. omega (arith, m.enough) in
        let next : fs t b left ≡ fs u c rest = ap (fs t b) split ∙ feeds_next fold.step fold.filled t b x rest unfilled ∙ sym (ap (λ (f : F). fs f c rest) is.0 ∙ ap (λ (a : Board S). fs (fold.step t b x).0 a rest) is.1) in
        record {
          fed = m.fed ++ (x ∷ []);
          parts = append_assoc m.fed (x ∷ []) rest ∙ ap (λ l. m.fed ++ l) (sym split) ∙ m.parts;
          alike_feeds = m.alike_feeds ∙ next;
          count = count ∙ m.count;
          enough = simp length-append (omega (arith, m.enough));
          covers = alike_trans covers m.covers;
          same = twin_trans same m.same;
          leaves = λ a h p. m.leaves a h (leaves a h p);
          opens = λ h g n o. rw append_assoc at (opens h (g ++ m.fed) (one n) (m.opens h g n o));
          keeps = λ h g n o y k f z e p. keeps_alike m.covers (keeps h (g ++ m.fed) (one n) (m.opens h g n o)) y k f z e (m.keeps h g n o y k f z e p);
        }

    shorter : length m.fed ≤ length items
    shorter = omega (arith, length-append m.fed left, ap length m.parts)

    ended : feeds fold.step fold.filled s b0 items ≡ (t, b) → ((h g : List I) → length items ≤ fold.room s → fold.Open s b0 h g → Folded (fold.Covers s) (fold.Open t) b0 b items h g) → FedAll fold s t b0 b items
    ended e folds = record {
      folder = sym (ap (λ p. p.0) e);
      board = sym (ap (λ p. p.1) e);
      count = m.count;
      enough = omega (arith, m.enough, shorter);
      folds = folds;
      leaves = m.leaves;
      covers = m.covers;
      same = m.same;
    }

    -- the folder says that it is full, so that the rest is the same to it
    pub fed_full : Sames (fold.Same t)
        → ((h g k : List I) → fold.Same t (h ++ g) (h ++ k) → fold.Open t b h g → fold.Open t b h k)
        → ((h g : List I) → fold.Open t b h g → Over (fold.Same t) (h ++ g))
        → fold.filled t b ≡ true → FedAll fold s t b0 b items
    fed_full sames stretch full e =
        let Same = fold.Same t in
        ended (m.alike_feeds ∙ feeds_full fold.step fold.filled t b left e)
        (λ h g n o.
        let f = g ++ m.fed in
        let opened : fold.Open t b h f = m.opens h g n o in
        let same : Same (h ++ f) (h ++ (f ++ left)) = subst (λ (l : List I). Same (h ++ f) l) (append_assoc h f left) (sames.syms _ _ (full h f opened left)) in
        let all : f ++ left ≡ g ++ items = append_assoc g m.fed left ∙ ap (λ l. g ++ l) m.parts in
        record {
          opens = subst (λ (l : List I). fold.Open t b h l) all (stretch h f (f ++ left) same opened);
          keeps = m.keeps h g n o;
        })

  -- two lists fed one after the other
  pub fed_both : {s t u : F} {b c d : Board S} {xs ys : List I} → FedAll fold s t b c xs → FedAll fold t u c d ys → FedAll fold s u b d (xs ++ ys)
  fed_both {s = s} {t = t} {u = u} {b = b} {c = c} {d = d} {xs = xs} {ys = ys} one two =
      let fs = feeds fold.step fold.filled in
      let n = length-append xs ys in
      let e : fs s b (xs ++ ys) ≡ fs t c ys = feeds_append fold.step fold.filled s b xs ys ∙ ap (λ (f : F). fs f (fs s b xs).1 ys) (sym one.folder) ∙ ap (λ (a : Board S). fs t a ys) (sym one.board) in
      record {
        folder = two.folder ∙ sym (ap (λ p. p.0) e);
        board = two.board ∙ sym (ap (λ p. p.1) e);
        count = two.count ∙ one.count;
        enough = omega (arith, n, one.enough, two.enough);
        folds = λ h g r o.
            let first = one.folds h g (omega (arith, n)) o in
            let second = two.folds h (g ++ xs) (omega (arith, n, one.enough)) first.opens in
            record {
              opens = subst (λ (l : List I). fold.Open u d h l) (append_assoc g xs ys) second.opens;
              keeps = λ x k f z q p. keeps_alike one.covers second.keeps x k f z q (first.keeps x k f z q p);
            };
        leaves = λ a h p. one.leaves a h (two.leaves a h p);
        covers = alike_trans two.covers one.covers;
        same = twin_trans two.same one.same;
      }
