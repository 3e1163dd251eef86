-- The six refusals: their numbers, their words, and when each is given.
use Rattle.std.specs.Prelude.{◌≡◌, ℕ, ◌^◌, Bool, true, false, List, ◌++◌, Some, None, codes, decimal, Option, ◌==◌, ◌≢◌, nat_le, nat_lt}
use Rattle.plumbing.specs.declared.refusal.Reason.{Reason}
use Rattle.plumbing.specs.declared.refusal.Reason.TheVariants.{Zero, Overlong, Slots, Beyond, Helpers, Cut}
use Rattle.plumbing.specs.declared.refusal.Giver.{Giver}
use Rattle.plumbing.specs.declared.refusal.Giver.TheVariants as giver
use Rattle.plumbing.specs.declared.refusal.Refusal.{Refusal}

-- the number of each reason
abbrev pub number_of : Reason → ℕ
number_of Zero = 1
number_of Overlong = 2
number_of Slots = 3
number_of Beyond = 4
number_of Helpers = 5
number_of Cut = 6

-- the word of each reason
abbrev pub word_of : Reason → List ℕ
word_of Zero = codes "zero"
word_of Overlong = codes "overlong"
word_of Slots = codes "slots"
word_of Beyond = codes "beyond"
word_of Helpers = codes "helpers"
word_of Cut = codes "cut"

-- the name of each giver
abbrev pub name_of : Giver → List ℕ
name_of giver.Interleave = codes "interleave"
name_of giver.Intersperse = codes "intersperse"
name_of giver.Chunks = codes "chunks"
name_of giver.Chain = codes "chain"
name_of giver.StepBy = codes "step_by"
name_of giver.Split = codes "split"
name_of giver.Open = codes "open"
name_of giver.Helpers = codes "helpers"
name_of giver.Advance = codes "advance"
name_of giver.Answer = codes "answer"

-- a refusal as text: the number, the word, and the giver in brackets
abbrev pub written : Refusal → List ℕ
written e = decimal (number_of e.reason) ++ (codes " " ++ (word_of e.reason ++ (codes " (" ++ (name_of e.giver ++ codes ")"))))

-- no reason has the number n
abbrev pub Wordless : ℕ → Type 0
Wordless n = (reason : Reason) → number_of reason ≢ n

-- w is the word of the reason that has the number n
abbrev pub WordOf : ℕ → List ℕ → Type 0
WordOf n w = (reason : Reason) × (number_of reason ≡ n) × (word_of reason ≡ w)

-- a refusal where the test is true, and none otherwise
abbrev pub refused_if : Bool → Refusal → Option Refusal
refused_if true e = Some e
refused_if false e = None

-- refused where n items are more than 2^64 - 1
abbrev pub overlong : Giver → ℕ → Option Refusal
overlong g n = refused_if (nat_le (2 ^ 64) n) (record { reason = Overlong; giver = g })

-- refused where the size is 0
abbrev pub zero_size : Giver → ℕ → Option Refusal
zero_size g size = refused_if (size == 0) (record { reason = Zero; giver = g })

-- refused where a cut at k lies past the n items
abbrev pub past_end : ℕ → ℕ → Option Refusal
past_end k n = refused_if (nat_lt n k) (record { reason = Cut; giver = giver.Split })
