use Rattle.std.proofs.Common.{◌≡◌, Some, None, ℕ, map, codes, false, string_bytes, bytes_eq, position, sym, ap, ◌∙◌, add-one}
use Rattle.std.specs.Map.{keys_of}
use Rattle.fv_declare_schema.specs.Groups.{Groups, group_number}
use Rattle.fv_declare_schema.specs.GroupViews.{declared_view, group_view}
use Rattle.fv_declare_schema.proofs.Numbers.{number_is, number_behind}
use Rattle.fv_declare_schema.proofs.declared.DeclaredGroups.find.Goals as goal

pub returns-in-Some-clause-number : goal.returns-in-Some-clause-number
returns-in-Some-clause-number c =
    let es = c.self.inside.declared.entries in
    let name = c.args.name.now in
    let index : c.get_index_of.result ≡ position (λ k. bytes_eq name (string_bytes k)) (keys_of es) = c.get_index_of.ensures.index in
    let number : Some c.in-Some.index ≡ group_number (map group_view es) name = sym c.in-Some.is ∙ index ∙ number_is name es in
    let other : bytes_eq name (codes "Default") ≡ false = sym c.eq.ensures ∙ c.if-eq.false in
    ap (λ (n : ℕ). Some n) (add-one c.in-Some.index) ∙ number_behind (declared_view c.self.inside.declared) name (Some c.in-Some.index) other number ∙ ap (λ (gs : Groups). group_number gs name) c.self.view_is

pub returns-in-None-clause-number : goal.returns-in-None-clause-number
returns-in-None-clause-number c =
    let es = c.self.inside.declared.entries in
    let name = c.args.name.now in
    let index : c.get_index_of.result ≡ position (λ k. bytes_eq name (string_bytes k)) (keys_of es) = c.get_index_of.ensures.index in
    let number : None ≡ group_number (map group_view es) name = sym c.in-None.is ∙ index ∙ number_is name es in
    let other : bytes_eq name (codes "Default") ≡ false = sym c.eq.ensures ∙ c.if-eq.false in
    number_behind (declared_view c.self.inside.declared) name None other number ∙ ap (λ (gs : Groups). group_number gs name) c.self.view_is
