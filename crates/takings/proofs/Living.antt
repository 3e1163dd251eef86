-- A list of calls, one call after another. Assumes nothing.
use Rattle.std.proofs.Common.{◌≡◌, ℕ, ◌+◌, ◌<◌, ◌≤◌, List, [], ◌∷◌, ◌++◌, reverse, length, Some, None, sym, refl, ap, ◌∙◌, subst, ⊎_elim, append_assoc, append-nil, arith, length-append}
use Rattle.std.specs.List.{flat_map}
use Rattle.std.proofs.lemmas.List.{map_push, flat_map_more, reverse-append, length_push, get_or_append_left, get_or_push, take-append-le, take_at, take_all}
use Rattle.std.proofs.lemmas.Bool.{cases_lt}
use Rattle.takings.specs.declared.Call.{Call}
use Rattle.takings.specs.declared.Answer.{Answer}
use Rattle.takings.specs.declared.Answer.TheVariants.{First, Last, Count}
use Rattle.takings.specs.Takings.{call_of, front, back, Parted, Tells, Moment, Life, Answered}

module _ {I : Type 0} where
  joined_push : (f : Answer I → List I) (log : List (Answer I)) (a : Answer I) → flat_map f (log ++ (a ∷ [])) ≡ flat_map f log ++ f a
  joined_push f log a = sym (flat_map_more f [] log a)

  -- F is taken from the front and B from the end before the answer
  parted_by : (F B was left : List I) (a : Answer I) → Answered was a left → F ++ (was ++ reverse B) ≡ (F ++ front a) ++ (left ++ reverse (B ++ back a))
  parted_by F B was left (First (Some x)) e = rw e (simp (append_assoc, append-nil))
  parted_by F B was left (First None) e = rw (e.0, e.1) (simp append-nil)
  parted_by F B was left (Last (Some x)) e = rw e (simp (append_assoc, append-nil, reverse-append))
  parted_by F B was left (Last None) e = rw (e.0, e.1) (simp append-nil)
  parted_by F B was left (Count n) e = rw e.1 (simp append-nil)

  parted_more : (items : List I) (log : List (Answer I)) (was left : List I) (a : Answer I) → Parted items log was → Answered was a left → Parted items (log ++ (a ∷ [])) left
  parted_more items log was left a parted answered =
      let F = flat_map front log in
      let B = flat_map back log in
      parted ∙ parted_by F B was left a answered ∙ sym (ap (λ (l : List I). l ++ (left ++ reverse (flat_map back (log ++ (a ∷ []))))) (joined_push front log a) ∙ ap (λ (l : List I). (F ++ front a) ++ (left ++ reverse l)) (joined_push back log a))

  answered_tells : (was left : List I) (a : Answer I) → Answered was a left → Tells was a
  answered_tells was left (First (Some x)) t = omega (arith, ap length t)
  answered_tells was left (First None) t = t.0
  answered_tells was left (Last (Some x)) t = omega (arith, ap length t, length-append left (x ∷ []))
  answered_tells was left (Last None) t = t.0
  answered_tells was left (Count n) t = t.0

  pub life_start : (items : List I) → Life items [] [] items
  life_start items = record {
    kinds = refl;
    moments = λ k h. (items, subst (λ (l : List (Answer I)). Parted items l items) (sym (take_all k [] (omega arith))) (sym (append-nil items)), λ d lt. absurd (omega arith));
    ends = sym (append-nil items);
  }

  pub life_more : (items : List I) (calls : List Call) (log : List (Answer I)) (was left : List I) (call : Call) (a : Answer I) → Life items calls log was → call_of a ≡ call → Answered was a left → Life items (calls ++ (call ∷ [])) (log ++ (a ∷ [])) left
  life_more items calls log was left call a life kind answered =
      let n = length log in
      let all = log ++ (a ∷ []) in
      let long : length all ≡ n + 1 = length_push log a in
      let ends : Parted items all left = parted_more items log was left a life.ends answered in
      -- among the answers before it
      let before : (k : ℕ) → k < n → Moment items all k = λ k h.
      let le : k ≤ n = omega arith in
      let m = life.moments k le in (
        m.0,
        subst (λ (l : List (Answer I)). Parted items l m.0) (sym (take-append-le k log (a ∷ []) le)) m.1,
        λ d lt. subst (λ (b : Answer I). Tells m.0 b) (sym (get_or_append_left log (a ∷ []) d k h)) (m.2 d h),
      ) in
      -- when it is asked for
      let here : Moment items all n = (
        was,
        subst (λ (l : List (Answer I)). Parted items l was) (sym (take_at log (a ∷ []) n refl)) life.ends,
        λ d lt. subst (λ (b : Answer I). Tells was b) (sym (get_or_push log a d n refl)) (answered_tells was left a answered),
      ) in
      -- after it
      let after : (k : ℕ) → n < k → Moment items all k = λ k h.
      (left, subst (λ (l : List (Answer I)). Parted items l left) (sym (take_all k all (omega arith))) ends, λ d lt. absurd (omega arith)) in
      record {
        kinds = map_push call_of log a ∙ ap (λ (l : List Call). l ++ (call_of a ∷ [])) life.kinds ∙ ap (λ (c : Call). calls ++ (c ∷ [])) kind;
        moments = λ k h. ⊎_elim (before k) (λ (ge : n ≤ k). ⊎_elim (after k) (λ (le : k ≤ n). let same : n ≡ k = omega arith in subst (λ (j : ℕ). Moment items all j) same here) (cases_lt n k)) (cases_lt k n);
        ends = ends;
      }
