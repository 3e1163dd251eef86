-- What the program's words ask for.
use Rattle.std.specs.Prelude.{◌≡◌, ◌≢◌, ◌≤◌, ℕ, ◌⊎◌, List, [], ◌∷◌, length, IfOk, IfErr, Ok, Err, codes, Result, String, string_bytes}
use Rattle.std.specs.Borrow.{Bor}
use Rattle.std.specs.declared.alloc.Global.{Global}
use Rattle.frontend.specs.declared.messages.Message.{Message}
use Rattle.frontend.specs.declared.messages.Message.TheVariants.{Memory, Words}
use Rattle.frontend.specs.declared.options.Format as format
use Rattle.frontend.specs.declared.options.Format.TheVariants.{Text, Tsv}
use Rattle.frontend.specs.declared.options.Source.{Source}
use Rattle.frontend.specs.declared.options.Source.TheVariants.{Input, File}
use Rattle.frontend.specs.declared.options.Named.{Named}
use Rattle.frontend.specs.declared.options.Named.TheVariants.{Nothing, Usage, Both, More}
use Rattle.frontend.specs.declared.options.Request.{Request}
use Rattle.frontend.specs.declared.options.Request.TheVariants.{Help, Run}
use Rattle.frontend.specs.declared.options.BadWords.{BadWords}
use Rattle.frontend.specs.declared.options.BadWords.TheVariants as bad

-- The word after --format that asks for a format.
abbrev pub format_word : format.Format → List ℕ
format_word Text = codes "text"
format_word Tsv = codes "tsv"

-- A word is read as the format that it asks for, and no other word is read: of such a one Told holds of what is said.
pub record ReadsFormat {E : Type 0} (word : List ℕ) (Told : E → Type 0) (r : Result format.Format E) : Type 0 where
  pub made : IfOk r (λ f. word ≡ format_word f)
  pub succeeds : (f : format.Format) → word ≡ format_word f → r ≡ Ok f
  pub told : IfErr r Told

-- It is told that this word, after --format, is none of those that are wanted, or that there is no memory to tell it.
abbrev pub TellsFormat : List ℕ → Message → Type 0
TellsFormat word m = ((w : String Global) × (m ≡ Words (bad.Format w)) × (string_bytes w ≡ word)) ⊎ (m ≡ Memory)

-- A word names standard input, if it is -, and else the file of that name.
abbrev pub Names : Bor (List ℕ) → Source → Type 0
Names word Input = word.now ≡ codes "-"
Names word (File name) = (name ≡ word) × (word.now ≢ codes "-")

-- What is held of the sources that the words name: two of them are the files, and of more it is told how many.
abbrev pub Counts : Named → List Source → Type 0
Counts Nothing sources = sources ≡ []
Counts (Usage usage) sources = sources ≡ usage ∷ []
Counts (Both files) sources = sources ≡ files.usage ∷ files.credits ∷ []
Counts (More n) sources = (n ≡ length sources) × (3 ≤ n)

-- Two files are run, unless both are standard input; any other number of files is told.
abbrev pub Asks : format.Format → List Source → Result Request BadWords → Type 0
Asks f named (Ok Help) = ⊥
Asks f named (Ok (Run g files)) = (g ≡ f) × (named ≡ files.usage ∷ files.credits ∷ []) × (named ≢ Input ∷ Input ∷ [])
Asks f named (Err (bad.Unknown w)) = ⊥
Asks f named (Err (bad.Format w)) = ⊥
Asks f named (Err bad.FormatMissing) = ⊥
Asks f named (Err (bad.Files n)) = (n ≡ length named) × (length named ≢ 2)
Asks f named (Err bad.InputTwice) = named ≡ Input ∷ Input ∷ []
