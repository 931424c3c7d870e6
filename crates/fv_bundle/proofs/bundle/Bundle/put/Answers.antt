use Rattle.std.proofs.Common.{◌≡◌, ◌∙◌, Some, None, map, string_bytes, bytes_eq, sym, ap}
use Rattle.std.specs.Map.{lookup, set_value}
use Rattle.fv_datum.specs.View.{view}
use Rattle.fv_bundle.specs.Bundles.{Things, Bundled}
use Rattle.fv_bundle.specs.Replaced.{thing_with}
use Rattle.fv_bundle.specs.Views.{named_view}
use Rattle.fv_bundle.specs.declared.bundle.Bundle.{Bundle}
use Rattle.fv_bundle.proofs.Put.{put_object, no_object}
use Rattle.fv_bundle.proofs.bundle.Bundle.put.Goals as goal

-- the bundle's root with these objects
abbrev with_objects : Bundle → Things → Bundled
with_objects b os = record { root = string_bytes b.root; objects = os }

pub returns-in-Some : goal.returns-in-Some
returns-in-Some c =
    let name = c.args.object.now in
    let es = c.args.self.now.objects.entries in
    let put = c.put.new.self in
    let change = thing_with c.args.field.now (view c.args.datum) in
    let found : lookup (λ k. bytes_eq name (string_bytes k)) es ≡ Some c.in-Some.object.now = sym c.in-Some.ensures.value in
    let written : (c.get_mut.follows.lender put).entries ≡ set_value (λ k. bytes_eq name (string_bytes k)) es put = (c.get_mut.follows.holds put).0 in
    ap (with_objects c.args.self.now) (ap (map named_view) written ∙ put_object name change es c.in-Some.object.now put c.put.ensures found)

pub returns-in_default : goal.returns-in_default
returns-in_default c =
    let name = c.args.object.now in
    let es = c.args.self.now.objects.entries in
    let none : lookup (λ k. bytes_eq name (string_bytes k)) es ≡ None = sym c.in_default.ensures.value in
    let same : c.get_mut.follows.lender-at-none ≡ c.args.self.now.objects = c.get_mut.follows.holds-at-none in
    ap (with_objects c.args.self.now) (ap (λ m. map named_view m.entries) same ∙ no_object name (thing_with c.args.field.now (view c.args.datum)) es none)
