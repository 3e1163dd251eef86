-- What a list of calls on a cursor tells.
use Rattle.std.specs.Prelude.{◌≡◌, ℕ, ◌<◌, ◌≤◌, List, [], ◌∷◌, ◌++◌, map, reverse, length, take, Some, None, Option, slice_index_or}
use Rattle.std.specs.List.{flat_map}
use Rattle.plumbing.specs.Cursors.{Front, Back}
use Rattle.takings.specs.declared.Call.{Call}
use Rattle.takings.specs.declared.Call.TheVariants.{Next, NextBack, Len}
use Rattle.takings.specs.declared.Answer.{Answer}
use Rattle.takings.specs.declared.Answer.TheVariants.{First, Last, Count}

-- the item of an option, if any
abbrev pub given : {I : Type 0} → Option I → List I
given (Some x) = x ∷ []
given None = []

-- the call that an answer answers
abbrev pub call_of : {I : Type 0} → Answer I → Call
call_of (First o) = Next
call_of (Last o) = NextBack
call_of (Count n) = Len

-- what an answer took from the front
abbrev pub front : {I : Type 0} → Answer I → List I
front (First o) = given o
front (Last o) = []
front (Count n) = []

-- what an answer took from the end
abbrev pub back : {I : Type 0} → Answer I → List I
back (First o) = []
back (Last o) = given o
back (Count n) = []

-- the items are those taken from the front in order, the others, and those taken from the end the other way round
abbrev pub Parted : {I : Type 0} → List I → List (Answer I) → List I → Type 0
Parted items log others = items ≡ flat_map front log ++ (others ++ reverse (flat_map back log))

-- a taking tells none exactly when no others are left
abbrev pub Gives : {I : Type 0} → List I → Option I → Type 0
Gives others (Some x) = 1 ≤ length others
Gives others None = others ≡ []

-- what an answer tells of the others that were left when it was asked for
abbrev pub Tells : {I : Type 0} → List I → Answer I → Type 0
Tells others (First o) = Gives others o
Tells others (Last o) = Gives others o
Tells others (Count n) = n ≡ length others

-- the moment after k answers: the items are parted, and the next answer, if any, tells of the others
abbrev pub Moment : {I : Type 0} → List I → List (Answer I) → ℕ → Type 0
Moment {I} items log k = (others : List I) × Parted items (take k log) others × ((d : Answer I) → k < length log → Tells others (slice_index_or log k d))

-- each call has its answer; so it stands at each moment; and in the end the others are what remains
pub record Life {I : Type 0} (items : List I) (calls : List Call) (log : List (Answer I)) (remain : List I) : Type 0 where
  pub kinds : map call_of log ≡ calls
  pub moments : (k : ℕ) → k ≤ length log → Moment items log k
  pub ends : Parted items log remain

-- a log went from before to after by the answers of such a list of calls
abbrev pub Logged : {I : Type 0} → List (Answer I) → List (Answer I) → List I → List Call → List I → Type 0
Logged {I} before after items calls remain = (answers : List (Answer I)) × (after ≡ before ++ answers) × Life items calls answers remain

-- one call
abbrev pub Answered : {I : Type 0} → List I → Answer I → List I → Type 0
Answered was (First o) left = Front was o left
Answered was (Last o) left = Back was o left
Answered was (Count n) left = (n ≡ length was) × (left ≡ was)
