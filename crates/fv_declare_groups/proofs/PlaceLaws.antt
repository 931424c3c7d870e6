-- A place is found exactly where a fault's condition holds.
use Rattle.std.proofs.Common.{◌≡◌, ℕ, List, [], ◌∷◌, length, nat_eq, Bool, true, false, not, ◌||◌, ◌&&◌, if◌then◌else◌, Option, Some, None, option_map, is_some, refl, ap, ap₂, ◌∙◌}
use Rattle.std.specs.List.{list_any}
use Rattle.std.specs.Option.{option_map_or}
use Rattle.fv_declare_draft.specs.AllCascades.{Cascade}
use Rattle.fv_declare_draft.specs.AllUses.{DraftUse}
use Rattle.fv_declare_draft.specs.Cascades as drafts
use Rattle.fv_declare_draft.specs.Drafts.{TypeDraft, FormDraft}
use Rattle.fv_declare_schema.specs.Groups.{Groups, group_number, is_sequence}
use Rattle.fv_declare_schema.specs.Judged as judged
use Rattle.fv_declare_schema.specs.Judged.{sequence_in}
use Rattle.fv_declare_groups.specs.First.{HasSome}
use Rattle.fv_first.specs.First.{first_where, IsFirstIn}
use Rattle.fv_declare_groups.specs.Grouping.{named_unknown, member_unknown, members_unknown, conversion_unknown, conversions_unknown, sequence_members, lacks_type, MemberMeets, MembersMeet, is_reference, is_misplaced}
use Rattle.fv_declare_groups.specs.Whereabouts.{unknown_use, unknown_member, unknown_conversion, unknown_form, unknown_in, misused_in, lacking_in, IsMetAt, IsMetIn, misplaced_at, misplaced_in}
use Rattle.fv_declare_groups.specs.declared.at.CascadeAt.TheVariants.{Valid, Convert, Conversion}
use Rattle.fv_declare_groups.specs.declared.at.GroupingAt.{GroupingAt}
use Rattle.fv_declare_groups.specs.declared.at.GroupingAt.TheVariants as at
use Rattle.fv_first.proofs.Laws.{or_told, or_none, map_told, when_told, first_told, where_told, inner_told}
use Rattle.fv_declare_groups.proofs.FirstLaws.{first_some, first_none}

four : (a b c d : Bool) → (a || (b || (c || d))) ≡ (a || b || c || d)
four true b c d = refl
four false true c d = refl
four false false true d = refl
four false false false d = refl

pub unknown_told : (gs : Groups) (us : List DraftUse) (ts : List TypeDraft) (cs : List Cascade) (fs : List FormDraft) → is_some (unknown_in gs us ts cs fs) ≡ named_unknown gs us ts cs fs
unknown_told gs us ts cs fs =
    or_told (unknown_use gs us) _
    ∙ ap₂ (λ a b. a || b) (inner_told at.Use (λ u name. not (is_some (group_number gs name))) (λ (u : DraftUse). u.draft.groups) us) (
    or_told (unknown_member gs ts) _
    ∙ ap₂ (λ a b. a || b) (inner_told at.Member (λ t. member_unknown gs t.name) sequence_members ts) (
    or_told (unknown_conversion gs cs) _
    ∙ ap₂ (λ a b. a || b) (inner_told (λ n k. at.Cascade n (Conversion k)) (λ c. conversion_unknown gs) (λ (c : Cascade). c.placed.cascade.conversions) cs) (
    or_none (unknown_form gs fs) ∙ inner_told at.Form (λ f name. not (is_some (group_number gs name))) (λ (f : FormDraft). f.groups) fs
    )
    )
    )
    ∙ four (list_any (λ u. judged.unknown_group_in gs u.draft.groups) us) (list_any (members_unknown gs) ts) (list_any (conversions_unknown gs) cs) (list_any (λ f. judged.unknown_group_in gs f.groups) fs)

pub misused_told : (gs : Groups) (us : List DraftUse) → is_some (misused_in gs us) ≡ list_any (λ u. sequence_in gs u.draft.groups) us
misused_told gs us = inner_told at.Use (λ u name. option_map_or (is_sequence gs) (group_number gs name) false) (λ (u : DraftUse). u.draft.groups) us

pub lacking_told : (ts : List TypeDraft) → is_some (lacking_in ts) ≡ list_any lacks_type ts
lacking_told ts = first_told _ lacks_type (λ n t. when_told (lacks_type t) (at.Sequence n)) 0 ts

one_of : {P : Type 0} (a b : Bool) (p q : P) (o : Option P) → is_some (if a then Some p else if b then Some q else o) ≡ (a || b || is_some o)
one_of true b p q o = refl
one_of false true p q o = refl
one_of false false p q o = refl

pub misplaced_told : (gs : Groups) (cs : List Cascade) → is_some (misplaced_in gs cs) ≡ list_any (is_misplaced gs) cs
misplaced_told gs cs = first_told _ (is_misplaced gs) (λ n c. map_told (at.Cascade n) (misplaced_at gs c) ∙ each c) 0 cs
  where
    each : (c : Cascade) → is_some (misplaced_at gs c) ≡ is_misplaced gs c
    each c =
        let cascade = c.placed.cascade in
        let a = cascade.valid && not (is_reference c.placed.kind) in
        let b = not cascade.valid && not (nat_eq (length cascade.conversions) 0) in
        let test : drafts.Conversion → Bool = λ r. sequence_in gs (r.from ∷ []) in
        one_of a b Valid Convert (option_map Conversion (first_where test cascade.conversions))
        ∙ ap (λ s. a || b || s) (map_told Conversion (first_where test cascade.conversions) ∙ where_told test cascade.conversions)

-- ---- a member that meets `Default`

meets_some : (gs : Groups) (type : List ℕ) (names : List (List ℕ)) (k : ℕ) → IsFirstIn (IsMetAt gs type) names (Some k) → HasSome (MemberMeets gs type) names
meets_some gs type names k found = first_some (IsMetAt gs type) (MemberMeets gs type) (λ n name p h. h.1) 0 names k found

meets_none : (gs : Groups) (type : List ℕ) (names : List (List ℕ)) → IsFirstIn (IsMetAt gs type) names None → HasSome (MemberMeets gs type) names → ⊥
meets_none gs type names found = first_none (IsMetAt gs type) (MemberMeets gs type) (λ n name h. h) 0 names found

each_some : (gs : Groups) (n : ℕ) (t : TypeDraft) (p : GroupingAt) → IsMetIn gs n t (Some p) → MembersMeet gs t
each_some gs n t p (Some k, found, is) = meets_some gs t.name (sequence_members t) k found
each_some gs n t p (None, found, is) = cc

each_none : (gs : Groups) (n : ℕ) (t : TypeDraft) → IsMetIn gs n t None → MembersMeet gs t → ⊥
each_none gs n t (Some k, found, is) = cc
each_none gs n t (None, found, is) = meets_none gs t.name (sequence_members t) found

pub met_some : (gs : Groups) (ts : List TypeDraft) (p : GroupingAt) → IsFirstIn (IsMetIn gs) ts (Some p) → HasSome (MembersMeet gs) ts
met_some gs ts p found = first_some (IsMetIn gs) (MembersMeet gs) (each_some gs) 0 ts p found

pub met_none : (gs : Groups) (ts : List TypeDraft) → IsFirstIn (IsMetIn gs) ts None → HasSome (MembersMeet gs) ts → ⊥
met_none gs ts found = first_none (IsMetIn gs) (MembersMeet gs) (each_none gs) 0 ts found
