-- What has been read of a file so far. Assumes nothing.
use Rattle.std.proofs.Common.{◌≡◌, ℕ, ◌<◌, List, [], ◌∷◌, ◌++◌, map, length, get_or, sym, ap, ◌∙◌, subst, inl, inr, ⊎_elim, append_assoc, arith}
use Rattle.std.proofs.lemmas.List.{get_or_append_left, get_or_push, length-map, length_push, map_push}
use Rattle.std.proofs.lemmas.Bool.{cases_lt}
use Rattle.reading.specs.declared.credits.Payer.{Payer}
use Rattle.reading.specs.declared.log.Entry.{Entry}
use Rattle.reading.specs.declared.table.Line.{Line}
use Rattle.reading.specs.declared.table.Table.{Table}
use Rattle.reading.specs.Books.{Pairwise, EntryOf, Used, CreditOf}
use Rattle.reading.specs.Named.{NamedAt}
use Rattle.reading.specs.Tables.{TableOf}
use Rattle.reading.specs.Fields.{fields_of}
use Rattle.reading.specs.Left.{Holds, Step}
use Rattle.reading.specs.Parts.{Grew, EntryRead}
use Rattle.reading.proofs.Listing.{named_before}
use Rattle.reading.proofs.Pairs.{pairwise_push, pairwise_weaker}

-- text holds the lines seen, and then what the table has left
abbrev pub Seen : List ℕ → List (List ℕ) → List (ℕ × List (List ℕ)) → Table → Type 0
Seen text header seen table = (ls : List (ℕ × List (List ℕ))) → Holds table ls → TableOf text header (seen ++ ls)

seen_more : {text : List ℕ} {header : List (List ℕ)} (seen : List (ℕ × List (List ℕ))) (old new : Table) (l : ℕ × List (List ℕ)) → Seen text header seen old → ((ls : List (ℕ × List (List ℕ))) → Holds new ls → Holds old (l ∷ ls)) → Seen text header (seen ++ l ∷ []) new
seen_more {text} {header} seen old new l left first ls h =
    subst (TableOf text header) (sym (append_assoc seen (l ∷ []) ls)) (left (l ∷ ls) (first ls h))

-- a name keeps its place
kept : (old new : List (List ℕ)) (k : ℕ) → Grew old new k → (j : ℕ) (name : List ℕ) → NamedAt old j name → NamedAt new j name
kept old new k (inl e) j name h = subst (λ l. NamedAt l j name) (sym e) h
kept old new k (inr g) j name h = subst (λ l. NamedAt l j name) (sym g.1) (named_before old (g.0 ∷ []) j name h)

entry_kept : {header members : List (List ℕ)} (old new : List (List ℕ)) (k : ℕ) → Grew old new k → (line : ℕ × List (List ℕ)) (entry : Entry) → EntryOf header members old line entry → EntryOf header members new line entry
entry_kept old new k grew line entry h = record {
  number = h.number;
  member = h.member;
  machine = record {
    place = h.machine.place;
    only = h.machine.only;
    holds = (kept old new k grew entry.machine _ h.machine.holds.0, h.machine.holds.1);
  };
  start = h.start;
  minutes = h.minutes;
  rate = h.rate;
}

abbrev machine_of : Entry → ℕ
machine_of entry = entry.machine

-- a machine is used by an old entry or by the new one
used_more : (old new : List (List ℕ)) (entries : List Entry) (entry : Entry) → Grew old new entry.machine → Used (length old) entries → Used (length new) (entries ++ entry ∷ [])
used_more old new entries entry grew used = by grew
  where
    before : (k : ℕ) → k < length old → (j : ℕ) × (j < length (entries ++ entry ∷ [])) × (get_or (map machine_of (entries ++ entry ∷ [])) j 0 ≡ k)
    before k lt =
        let u = used k lt in (
          u.0,
          omega (arith, u.1, length_push entries entry),
          ap (λ l. get_or l u.0 0) (map_push machine_of entries entry) ∙ get_or_append_left (map machine_of entries) (entry.machine ∷ []) 0 u.0 (omega (arith, u.1, length-map entries machine_of)) ∙ u.2,
        )

    by : Grew old new entry.machine → Used (length new) (entries ++ entry ∷ [])
    by (inl e) k lt = before k (subst (λ l. k < length l) e lt)
    by (inr g) k lt =
        ⊎_elim
        (before k)
        (λ ge.
        let here : entry.machine ≡ k = omega (arith, lt, ap length g.1, length_push old g.0, g.2) in (
          length entries,
          omega (arith, length_push entries entry),
          ap (λ l. get_or l (length entries) 0) (map_push machine_of entries entry) ∙ get_or_push (map machine_of entries) entry.machine 0 (length entries) (length-map entries machine_of) ∙ here,
        ))
        (cases_lt k (length old))

-- the log has what the lines seen say
pub record LogSofar (text : List ℕ) (header members : List (List ℕ)) (table : Table) (entries : List Entry) (machines : List (List ℕ)) : Type 0 where
  pub seen : List (ℕ × List (List ℕ))
  pub left : Seen text header seen table
  pub said : Pairwise (EntryOf header members machines) seen entries
  pub used : Used (length machines) entries

-- one line more
pub one_entry : {text : List ℕ} {header members : List (List ℕ)} {table new : Table} {es entries : List Entry} {before after : List (List ℕ)} {line : Line} {entry : Entry} → LogSofar text header members table es before → Step table new line → EntryRead header members before after line entry → entries ≡ es ++ entry ∷ [] → LogSofar text header members new entries after
one_entry {text} {header} {members} {table} {new} {es} {entries} {before} {after} {line} {entry} old step one pushed =
    let said = pairwise_weaker _ (EntryOf header members after) (entry_kept before after entry.machine one.grew) old.seen es old.said in
    record {
      seen = old.seen ++ (line.number, fields_of line) ∷ [];
      left = seen_more old.seen table new (line.number, fields_of line) old.left step.first;
      said = subst (Pairwise (EntryOf header members after) (old.seen ++ (line.number, fields_of line) ∷ [])) (sym pushed) (pairwise_push (EntryOf header members after) old.seen es said one.says);
      used = subst (Used (length after)) (sym pushed) (used_more before after es entry one.grew old.used);
    }

-- the credits have what the lines seen say
pub record CreditsSofar (text : List ℕ) (header : List (List ℕ)) (table : Table) (payers : List Payer) : Type 0 where
  pub seen : List (ℕ × List (List ℕ))
  pub left : Seen text header seen table
  pub list : Pairwise (CreditOf header) seen payers

pub one_credit : {text : List ℕ} {header : List (List ℕ)} {table later : Table} {old new : List Payer} {line : Line} {payer : Payer} → CreditsSofar text header table old → Step table later line → new ≡ old ++ payer ∷ [] → CreditOf header (line.number, fields_of line) payer → CreditsSofar text header later new
one_credit {text} {header} {table} {later} {old} {new} {line} {payer} sofar step added what =
    let l : ℕ × List (List ℕ) = (line.number, fields_of line) in
    record {
      seen = sofar.seen ++ l ∷ [];
      left = seen_more sofar.seen table later l sofar.left step.first;
      list = subst (Pairwise (CreditOf header) (sofar.seen ++ l ∷ [])) (sym added) (pairwise_push (CreditOf header) sofar.seen old sofar.list what);
    }
