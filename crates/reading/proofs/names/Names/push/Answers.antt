use Rattle.std.proofs.Common.{◌≡◌, ◌++◌, ◌∷◌, [], map, length, Some, None, string_bytes, sym, refl, ap, subst, ◌∙◌, rules}
use Rattle.std.proofs.lemmas.List.{length-map, map_push, take-append-le, take_all}
use Rattle.std.proofs.lemmas.Map.Text.{btree_map_updates_text}
use Rattle.reading.specs.Named.{Lacks, Tells}
use Rattle.reading.proofs.Listing.{distinct_from_map, tells_same, tells_more}
use Rattle.reading.proofs.names.Names.push.Goals as goal

pub invariant_of-self-in-Err : goal.invariant_of-self-in-Err
invariant_of-self-in-Err g c =
    let same : c.truncate.new.self.items ≡ c.self.inside.list.items = search (rules, take-append-le, take_all) in
    tells_same (search rules) (ap (map g.T.Named.name) same) c.self.invariant

pub invariant_of-self-in_default : goal.invariant_of-self-in_default
invariant_of-self-in_default g c =
    let list = c.self.inside.list.items in
    let names = map g.T.Named.name list in
    let name = g.T.Named.name c.args.item in
    let lacks = subst (λ xs. Lacks (map g.T.Named.name xs) name) (sym c.self.view_is) c.requires in
    let text : string_bytes c.in_ok-name.name ≡ name = search rules in
    let last : c.len-place.result ≡ length names = search (rules, length-map) in
    let sets = rw (text, last) at (btree_map_updates_text (string_bytes c.in_ok-name.name) c.self.inside.places c.insert.new.self _ c.in_default.ensures.updates) in
    let more : map g.T.Named.name c.push.new.self.items ≡ names ++ name ∷ [] = ap (map g.T.Named.name) c.in_ok-push.ensures.items ∙ map_push g.T.Named.name list c.args.item in
    subst (Tells c.insert.new.self) (sym more) (tells_more c.self.inside.places c.insert.new.self names name c.self.invariant lacks c.insert.ensures.ordered sets)

pub returns : goal.returns
returns g c =
    record {
      added = (search rules, c.in_ok-push.ensures.items ∙ ap (λ xs. xs ++ c.args.item ∷ []) c.self.view_is);
      distinct = distinct_from_map (invariant_of-self-in_default g c);
    }
