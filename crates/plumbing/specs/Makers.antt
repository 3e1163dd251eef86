-- What a call that may refuse answers.
use Rattle.std.specs.Prelude.{◌≡◌, Some, None, Ok, Err, Option, Result}
use Rattle.plumbing.specs.declared.refusal.Refusal.{Refusal}

-- the refusal where there is one, and otherwise a value that is as it should be
abbrev pub Outcome : {Q : Type 0} → Option Refusal → (Q → Type 0) → Result Q Refusal → Type 0
Outcome (Some e) Good (Ok q) = ⊥
Outcome (Some e) Good (Err d) = d ≡ e
Outcome None Good (Ok q) = Good q
Outcome None Good (Err d) = ⊥

-- a maker over one producer: a refusal from beneath is passed on
abbrev pub OverOne : {P Q : Type 0} → Result P Refusal → (P → Result Q Refusal → Type 0) → Result Q Refusal → Type 0
OverOne (Err e) Made r = r ≡ Err e
OverOne (Ok p) Made r = Made p r

-- a maker over two producers: a refusal from beneath is passed on, of two the first
abbrev pub OverTwo : {P Q R : Type 0} → Result P Refusal → Result Q Refusal → (P → Q → Result R Refusal → Type 0) → Result R Refusal → Type 0
OverTwo one other Made = OverOne one (λ p. OverOne other (Made p))
