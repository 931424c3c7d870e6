-- The nodes of parts.
use Rattle.std.proofs.Common.{◌≡◌, ◌<◌, ℕ, List, [], ◌∷◌, ◌++◌, length, map, true, false, nat_eq, Option, Some, None, slice_get, MatchOption, refl, sym, ap, subst, ◌∙◌, arith}
use Rattle.std.specs.Option.{option_map_or}
use Rattle.fv_datum.specs.Data.{Data}
use Rattle.fv_datum.specs.Name.{names}
use Rattle.fv_extract.specs.Parts.{Locus, LocusPart, parts_at}
use Rattle.fv_extract.specs.Places.{FieldPlace}
use Rattle.fv_extract.specs.Views.{part_view}
use Rattle.fv_extract.specs.declared.place.Part as code
use Rattle.fv_graph.specs.Graph.{IsIn}
use Rattle.fv_bundle.specs.Bundles.{Thing}
use Rattle.fv_path.specs.Nodes.{PathNode, field}
use Rattle.fv_path.specs.Paths.{IsPath}
use Rattle.fv_path.specs.Views.{node_view}
use Rattle.fv_path.specs.declared.node.Node.{Node}
use Rattle.fv_path.proofs.Chains.{path_front}
use Rattle.fv_local.proofs.LocatedParts.{part_there}
use Rattle.fv_local.specs.Sound.{IsSound}
use Rattle.fv_local.specs.Loci.{leads}
use Rattle.fv_local.specs.Paths.{field_name, nodes_of}
use Rattle.fv_walk_traces.specs.Violations.{but_named}
use Rattle.fv_walk.specs.Paths.{TakesField}
use Rattle.fv_walk.proofs.Paths.{field_alone, last_dropped}

-- what is known of the field of a part
pub record IsNamed (object : Thing) (place : FieldPlace) (locus : Locus) (name : List ℕ) : Type 0 where
  pub named : names name ≡ true
  pub led : leads place.steps locus ≡ true
  pub is : field_name object place.field ≡ name

pub named_there : (object : Thing) (place : FieldPlace) (locus : Locus) (d : Data) (f : List ℕ × Data) → IsSound object → IsIn (parts_at object place) (locus, d) → slice_get object.fields place.field ≡ Some f → IsNamed object place locus f.0
named_there object place locus d f sound h at =
    let part = part_there object place (locus, d) sound h in record {
      named = sound.named place.field f at;
      led = part.led;
      is = ap (λ (o : Option (List ℕ × Data)). option_map_or (λ f. f.0) o []) at;
    }

-- whether a list is empty, by its length
pub is_some : (n len : ℕ) → n ≡ len → false ≡ nat_eq len 0 → 0 < n
is_some n len long none = grind (arith, long, none)

pub is_none : (n len : ℕ) → n ≡ len → true ≡ nat_eq len 0 → n ≡ 0
is_none n len long none = grind (arith, long, none)

no_more : (old : List PathNode) (n : PathNode) (ns : List PathNode) → old ++ n ∷ ns ≡ [] → ⊥
no_more [] n ns e = cc
no_more (o ∷ old) n ns e = cc

some_part : (ps : List code.Part) → 0 < length ps → (x : LocusPart) × (rest : Locus) × (map part_view ps ≡ x ∷ rest)
some_part [] less = absurd (omega arith)
some_part (p ∷ ps) less = (part_view p, map part_view ps, refl)

no_part : (ps : List code.Part) → length ps ≡ 0 → map part_view ps ≡ []
no_part [] none = refl
no_part (p ∷ ps) none = absurd (omega (arith, none))

module _ (object : Thing) (place : FieldPlace) (ps : List code.Part) (name : List ℕ) (old whole : List PathNode) (led : leads place.steps (map part_view ps) ≡ true) (path : IsPath whole) (pushed : whole ≡ old ++ field name ∷ nodes_of place.steps (map part_view ps)) where
  -- without a locus nothing is taken off
  pub way_alone : length ps ≡ 0 → (whole ≡ old ++ but_named (field name ∷ nodes_of place.steps (map part_view ps))) × TakesField whole
  way_alone none = field_alone old whole name place.steps (map part_view ps) led pushed path (no_part ps none)

  -- else the last node is
  pub way_popped : (new : List PathNode) (r : Option Node) → 0 < length ps → MatchOption r ((whole ≡ []) × (new ≡ [])) (λ n. whole ≡ new ++ node_view n ∷ [])
      → (new ≡ old ++ but_named (field name ∷ nodes_of place.steps (map part_view ps))) × TakesField new
  way_popped new None some popped = absurd (no_more old (field name) (nodes_of place.steps (map part_view ps)) (sym pushed ∙ popped.0))
  way_popped new (Some n) some popped =
      let p = some_part ps some in
      last_dropped old whole name place.steps (map part_view ps) led pushed path p.0 p.1 p.2 new (node_view n) popped
      (path_front new (node_view n) (subst IsPath popped path))
