-- How amounts, counts, names and places are written.
use Rattle.std.specs.Prelude.{ℕ, ◌/◌, ◌%◌, cond, List, [], ◌∷◌, ◌++◌, map, codes, decimal, ◌==◌}
use Rattle.std.specs.List.{concat}
use Rattle.ledger.specs.declared.shown.Spot.{Spot}

-- Cents as whole units, a point and two digits.
abbrev pub money : ℕ → List ℕ
money cents = decimal (cents / 100) ++ (codes "." ++ (decimal (cents % 100 / 10) ++ decimal (cents % 10)))

-- What a name ends in after a number: nothing after one, else an s.
abbrev pub plural : ℕ → List ℕ
plural n = cond (n == 1) [] (codes "s")

-- A number and the name of what there is so many of.
abbrev pub counted : ℕ → List ℕ → List ℕ
counted n name = decimal n ++ (codes " " ++ (name ++ plural n))

-- A backslash and this letter.
abbrev pub backslash : ℕ → List ℕ
backslash letter = 92 ∷ letter ∷ []

-- A tab, a line feed, a carriage return and a backslash are written as \t, \n, \r and \\, any other byte as itself.
abbrev pub escaped_byte : ℕ → List ℕ
escaped_byte b =
    cond (b == 9) (backslash 116) (cond (b == 10) (backslash 110) (cond (b == 13) (backslash 114) (cond (b == 92) (backslash 92) (b ∷ []))))

-- A text, byte for byte so that it breaks neither a line nor a column.
abbrev pub escaped : List ℕ → List ℕ
escaped bs = concat (map escaped_byte bs)

-- A record of the log by its number, its line and its machine.
abbrev pub spotted : Spot → List ℕ
spotted s = codes "record " ++ (decimal s.number ++ (codes ", line " ++ (decimal s.line ++ (codes ", " ++ escaped s.machine.now))))
