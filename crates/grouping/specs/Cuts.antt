-- A producer that is cut between its runs.
use Rattle.std.specs.Prelude.{◌≡◌, ℕ, ◌≤◌, List, [], ◌∷◌, ◌++◌, length}
use Rattle.plumbing.specs.declared.producer.Listed.{Ghosts as Listing}
use Rattle.grouping.specs.Runs.{chunked}

module _ {P I : Type 0} (of : Listing P I) (size : ℕ) (base : P) where
  -- the runs of a producer
  abbrev pub runs : P → List (List I)
  runs p = chunked size (of.items p)

  -- the first run, which is not empty, and what follows it
  pub record FirstRun (parts : P × P) : Type 0 where
    pub joined : runs base ≡ of.items parts.0 ∷ runs parts.1
    pub some : 1 ≤ length (of.items parts.0)

  -- what stands before the last run, and the last run, which is not empty
  pub record LastRun (parts : P × P) : Type 0 where
    pub joined : runs base ≡ runs parts.0 ++ (of.items parts.1 ∷ [])
    pub some : 1 ≤ length (of.items parts.1)
