use Rattle.std.proofs.Common.{◌≡◌, ℕ, List, map, take, drop, nat_eq, nat_lt, leb, sym, ap, subst, ◌∙◌, rules}
use Rattle.std.proofs.lemmas.List.Sorted.{IsPartitionPoint-from_clause, IsPartitionedBy-leb, IsPartitionedBy-ltb, IsNonDecreasingBy-drop}
use Rattle.std.specs.List.{filter}
use Rattle.std.specs.List.Sorted.{IsNonDecreasingBy}
use Rattle.fv_declare_schema.specs.ValidPlaces as spec
use Rattle.fv_declare_schema.specs.NumberViews.{valid_place_view}
use Rattle.fv_declare_schema.specs.declared.place.ValidPlace.{ValidPlace}
use Rattle.fv_declare_schema.specs.Declarations.{Declarations}
use Rattle.fv_declare_schema.specs.Ordered.{ArePlacesRising}
use Rattle.fv_declare_schema.proofs.OfType.{Parts, found, filter-map, types_rise}
use Rattle.fv_declare_schema.proofs.schema.Schema.valid_places_of.Goals as goal

pub returns-clause-places : goal.returns-clause-places
returns-clause-places c =
    let xs = c.as_slice-places.result.now in
    let own = c.as_slice-places.ensures.value in
    let type = c.args.type_id.index in
    let first = c.partition_point-first.result in
    let count = c.partition_point-count.result in
    let rest = c.split_at.result.1.now in
    let seen : map valid_place_view xs ≡ c.args.self.now.valid_places = ap (map valid_place_view) own ∙ ap (λ (d : Declarations). d.valid_places) c.self.view_is in
    let is : rest ≡ drop first xs = c.split_at.ensures.back in
    let number : ValidPlace → ℕ = λ p. (valid_place_view p).type in
    let rise = types_rise valid_place_view xs (subst (λ (ps : List ValidPlace). ArePlacesRising (map valid_place_view ps)) (sym own) c.self.invariant.cascading) in
    let later = subst (λ (ps : List ValidPlace). IsNonDecreasingBy number ps) (sym is) (IsNonDecreasingBy-drop number first xs rise) in
    let lower = IsPartitionPoint-from_clause (λ (p : ValidPlace). nat_lt (number p) type) xs first c.partition_point-first.ensures.partitioned (IsPartitionedBy-ltb number xs type rise) (λ a r q k. search rules) in
    let upper = IsPartitionPoint-from_clause (λ (p : ValidPlace). leb (number p) type) rest count c.partition_point-count.ensures.partitioned (IsPartitionedBy-leb number rest type later) (λ a r q k. search rules) in
    ap (λ (ps : List ValidPlace). map valid_place_view (take count ps)) is
    ∙ ap (map valid_place_view) (found number type xs first count lower (subst (λ (ps : List ValidPlace). Parts (λ p. leb (number p) type) ps count) is upper))
    ∙ filter-map (λ (p : spec.ValidPlace). nat_eq p.type type) valid_place_view xs
    ∙ ap (filter (λ (p : spec.ValidPlace). nat_eq p.type type)) seen
