use Rattle.std.proofs.Common.{map, subst, ◌∙◌}
use Rattle.reading.specs.Named.{PlaceOf, Distinct}
use Rattle.reading.proofs.Listing.{place_from_map, distinct_from_map}
use Rattle.reading.proofs.names.Names.find.Goals as goal

pub returns : goal.returns
returns g c = record {
  place =
      subst (λ xs. PlaceOf (map g.T.Named.name xs) c.args.name.now c.copied.result) c.self.view_is
      (place_from_map c.self.invariant c.args.name.now _ (c.copied.ensures ∙ c.get.ensures.value));
  distinct = subst (λ xs. Distinct (map g.T.Named.name xs)) c.self.view_is (distinct_from_map c.self.invariant);
}
