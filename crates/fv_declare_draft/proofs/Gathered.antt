-- What is gathered inside places.
use Rattle.std.proofs.Common.{◌≡◌, ℕ, List, [], ◌∷◌, ◌++◌, map, Option, Some, None, option_map, refl}
use Rattle.fv_datum.specs.Forms.{map2, map3}
use Rattle.fv_extract.specs.Places.{PlaceStep, element, key, value, content}
use Rattle.fv_bundle.specs.Types.{texts, lists, maps, optionals, kind_of}
use Rattle.fv_declare_draft.specs.Cascades.{CascadeDraft}
use Rattle.fv_declare_draft.specs.Gathering.{Gathered, gathered, inside}
use Rattle.fv_declare_draft.specs.Places.{Holding, PlaceDraft, place, list, optional, a_map, use_there, cascade_there, type_at, uses_at, cascades_at}
use Rattle.fv_declare_draft.specs.Drafts.{FieldDraft}
use Rattle.fv_declare_draft.specs.Uses.{UseDraft}

-- lists of what is gathered of a place
pub list_inside : (steps : List PlaceStep) (g : Option Gathered) (p : Option PlaceDraft) → g ≡ option_map (gathered (steps ++ element ∷ [])) p
    → option_map (λ (x : Gathered). record { type = lists x.type; uses = x.uses; cascades = x.cascades }) g ≡ option_map (inside steps) (option_map list p)
list_inside steps g None is = rw is refl
list_inside steps g (Some p) is = rw is refl

pub optional_inside : (steps : List PlaceStep) (g : Option Gathered) (p : Option PlaceDraft) → g ≡ option_map (gathered (steps ++ content ∷ [])) p
    → option_map (λ (x : Gathered). record { type = optionals x.type; uses = x.uses; cascades = x.cascades }) g ≡ option_map (inside steps) (option_map optional p)
optional_inside steps g None is = rw is refl
optional_inside steps g (Some p) is = rw is refl

pub map_inside : (steps : List PlaceStep) (keys : List UseDraft) (g : Option Gathered) (p : Option PlaceDraft) → g ≡ option_map (gathered (steps ++ value ∷ [])) p
    → option_map (λ (x : Gathered). record { type = maps x.type; uses = map (use_there (steps ++ key ∷ []) (kind_of texts)) keys ++ x.uses; cascades = x.cascades }) g
    ≡ option_map (inside steps) (map2 a_map (Some keys) p)
map_inside steps keys g None is = rw is refl
map_inside steps keys g (Some p) is = rw is refl

-- the uses at a place and the cascade there before what is gathered inside it
pub place_gathered : (steps : List PlaceStep) (uses : List UseDraft) (cascade : CascadeDraft) (g : Option Gathered) (held : Option Holding) → g ≡ option_map (inside steps) held
    → option_map (λ (x : Gathered). record { type = x.type; uses = map (use_there steps (kind_of x.type)) uses ++ x.uses; cascades = cascade_there steps (kind_of x.type) cascade ∷ x.cascades }) g
    ≡ option_map (gathered steps) (map3 place (Some uses) (Some cascade) held)
place_gathered steps uses cascade g None is = rw is refl
place_gathered steps uses cascade g (Some held) is = rw is refl

-- a field by what is gathered of its place
pub field_gathered : (name : List ℕ) (g : Option Gathered) (p : Option PlaceDraft) → g ≡ option_map (gathered []) p
    → option_map {U = FieldDraft} (λ (x : Gathered). record { name = name; type = x.type; uses = x.uses; cascades = x.cascades }) g
    ≡ option_map (λ q. record { name = name; type = type_at q; uses = uses_at [] q; cascades = cascades_at [] q }) p
field_gathered name g None is = rw is refl
field_gathered name g (Some q) is = rw is refl
