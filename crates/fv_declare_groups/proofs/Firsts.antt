-- The first fault of a draft's groups, by what is known of each condition.
use Rattle.std.proofs.Common.{◌≡◌, inl, inr, List, [], ◌∷◌, Bool, true, false, IsTrue, ◌||◌, Option, Some, None, option_map, is_some, refl, ap, subst, true≢false, sym, ◌∙◌}
use Rattle.std.specs.List.{list_any}
use Rattle.fv_declare_draft.specs.Drafts.{TypeDraft, Drafted}
use Rattle.fv_declare_schema.specs.Groups.{Groups}
use Rattle.fv_declare_schema.specs.Judged.{has_unknown_group, has_inherited_sequence, sequence_in, AreSound}
use Rattle.fv_declare_draft.specs.AllCascades.{Cascade, cascades_in}
use Rattle.fv_declare_draft.specs.AllUses.{DraftUse, uses_in}
use Rattle.fv_declare_groups.specs.First.{IsFirst, HasSome}
use Rattle.fv_declare_groups.specs.Graphed.{IsFaultOf}
use Rattle.fv_declare_groups.specs.Grouping.{groups_in, named_unknown, lacks_type, MembersMeet, is_misplaced, grouping_faults, Holds}
use Rattle.std.specs.Option.{option_or}
use Rattle.fv_declare_schema.specs.Whereabouts.{unknown_name, inherited_sequence}
use Rattle.fv_declare_schema.specs.declared.fault.NameAt.{NameAt}
use Rattle.fv_first.proofs.Laws.{map_told}
use Rattle.fv_declare_schema.proofs.FaultPlaces.{unknown_told, inherited_told}
use Rattle.fv_declare_groups.specs.Whereabouts.{group_at, unknown_in, misused_in, IsAt, IsAtGroup}
use Rattle.fv_declare_groups.specs.declared.at.GroupingAt.{GroupingAt}
use Rattle.fv_declare_groups.specs.declared.fault.GroupingFault.{GroupingFault}
use Rattle.fv_declare_groups.specs.declared.fault.GroupingFault.TheVariants.{UnknownGroup, CyclicInheritance, CyclicSequence, SequenceMisused, SequenceLacksType, DefaultInTypeSequence, ConversionMisplaced, Memory}

or_first : (a b : Bool) → a ≡ true → (a || b) ≡ true
or_first a b e = rw e refl

or_second : (a b : Bool) → b ≡ true → (a || b) ≡ true
or_second true b e = refl
or_second false b e = e

or_neither : (a b : Bool) → a ≡ false → b ≡ false → (a || b) ≡ false
or_neither a b e h = rw (e, h) refl

not_both : (b : Bool) → b ≡ false → b ≡ true → ⊥
not_both b e h = true≢false (sym h ∙ e)

module _ (d : Drafted) where
  abbrev pub Told : Option GroupingFault → Type 0
  Told found = IsFirst (Holds d) grouping_faults found

  abbrev all : Groups
  all = groups_in d

  abbrev named : Bool
  named = named_unknown all (uses_in d.types) d.types (cascades_in d.types) d.forms

  -- a name outside of groups is no group's
  pub name_unknown : named ≡ true → Told (Some UnknownGroup)
  name_unknown is = inl (or_first named (has_unknown_group all) is, refl)

  module _ (names : named ≡ false) where
    -- a fault of groups by themselves
    pub group_fault : (f : GroupingFault) → IsFaultOf all f → Told (Some f)
    group_fault UnknownGroup is = inl (or_second named (has_unknown_group all) is, refl)
    group_fault CyclicInheritance is = inr (not_both _ (or_neither named (has_unknown_group all) names is.0), inl (is.1, refl))
    group_fault CyclicSequence is = inr (not_both _ (or_neither named (has_unknown_group all) names is.0), inr (is.1, inl (is.2, refl)))
    group_fault SequenceMisused is =
        inr (
          not_both _ (or_neither named (has_unknown_group all) names is.0),
          inr (
            is.1,
            inr (
              is.2,
              inl (or_second (list_any (λ u. sequence_in all u.draft.groups) (uses_in d.types)) (has_inherited_sequence all) is.3, refl),
            ),
          ),
        )
    group_fault SequenceLacksType is = absurd is
    group_fault DefaultInTypeSequence is = absurd is
    group_fault ConversionMisplaced is = absurd is
    group_fault Memory is = absurd is

    module _ (sound : AreSound all) where
      later : (found : Option GroupingFault) → IsFirst (Holds d) (SequenceMisused ∷ SequenceLacksType ∷ DefaultInTypeSequence ∷ ConversionMisplaced ∷ []) found → Told found
      later found h = inr (not_both _ (or_neither named (has_unknown_group all) names sound.known), inr (sound.inheritance, inr (sound.expansion, h)))

      abbrev in_sequence : Bool
      in_sequence = list_any (λ u. sequence_in all u.draft.groups) (uses_in d.types)

      -- a constraint is in a sequence
      pub use_misused : in_sequence ≡ true → Told (Some SequenceMisused)
      use_misused is = later (Some SequenceMisused) (inl (or_first in_sequence (has_inherited_sequence all) is, refl))

      module _ (proper : in_sequence ≡ false) where
        not_misused : Holds d SequenceMisused → ⊥
        not_misused = not_both _ (or_neither in_sequence (has_inherited_sequence all) proper sound.proper)

        -- a type's sequence lacks the type
        pub type_lacking : list_any lacks_type d.types ≡ true → Told (Some SequenceLacksType)
        type_lacking is = later (Some SequenceLacksType) (inr (not_misused, inl (is, refl)))

        module _ (own : list_any lacks_type d.types ≡ false) where
          -- a member of one meets `Default`
          pub default_met : HasSome (MembersMeet all) d.types → Told (Some DefaultInTypeSequence)
          default_met is = later (Some DefaultInTypeSequence) (inr (not_misused, inr (not_both _ own, inl (is, refl))))

          module _ (apart : HasSome (MembersMeet all) d.types → ⊥) where
            -- a conversion is misplaced
            pub conversion_misplaced : list_any (is_misplaced all) (cascades_in d.types) ≡ true → Told (Some ConversionMisplaced)
            conversion_misplaced is = later (Some ConversionMisplaced) (inr (not_misused, inr (not_both _ own, inr (apart, inl (is, refl)))))

            -- there is no fault
            pub none_told : list_any (is_misplaced all) (cascades_in d.types) ≡ false → Told None
            none_told is = later None (inr (not_misused, inr (not_both _ own, inr (apart, inr (not_both _ is, refl)))))

-- ---- what is asked of lists that are the draft's

module _ (d : Drafted) where
  pub named_same : (gs : Groups) (us : List DraftUse) (cs : List Cascade) (b : Bool) → gs ≡ groups_in d → us ≡ uses_in d.types → cs ≡ cascades_in d.types → b ≡ named_unknown gs us d.types cs d.forms
      → named_unknown (groups_in d) (uses_in d.types) d.types (cascades_in d.types) d.forms ≡ b
  named_same gs us cs b groups uses cascades is =
      sym (is ∙ ap (λ (g : Groups). named_unknown g us d.types cs d.forms) groups ∙ ap (λ (u : List DraftUse). named_unknown (groups_in d) u d.types cs d.forms) uses
      ∙ ap (λ (c : List Cascade). named_unknown (groups_in d) (uses_in d.types) d.types c d.forms) cascades)

  pub sequenced_same : (gs : Groups) (us : List DraftUse) (b : Bool) → gs ≡ groups_in d → us ≡ uses_in d.types → b ≡ list_any (λ u. sequence_in gs u.draft.groups) us
      → list_any (λ u. sequence_in (groups_in d) u.draft.groups) (uses_in d.types) ≡ b
  sequenced_same gs us b groups uses is =
      sym (is ∙ ap (λ (g : Groups). list_any (λ (u : DraftUse). sequence_in g u.draft.groups) us) groups ∙ ap (λ (u : List DraftUse). list_any (λ (v : DraftUse). sequence_in (groups_in d) v.draft.groups) u) uses)

  pub lacking_same : (ts : List TypeDraft) (b : Bool) → ts ≡ d.types → b ≡ list_any lacks_type ts → list_any lacks_type d.types ≡ b
  lacking_same ts b types is = sym (is ∙ ap (list_any lacks_type) types)

  pub met_same : (gs : Groups) (ts : List TypeDraft) → gs ≡ groups_in d → ts ≡ d.types → HasSome (MembersMeet gs) ts → HasSome (MembersMeet (groups_in d)) d.types
  met_same gs ts groups types h = subst (λ (g : Groups). HasSome (MembersMeet g) d.types) groups (subst (λ (t : List TypeDraft). HasSome (MembersMeet gs) t) types h)

  pub unmet_same : (gs : Groups) (ts : List TypeDraft) → gs ≡ groups_in d → ts ≡ d.types → (HasSome (MembersMeet gs) ts → false ≡ true) → HasSome (MembersMeet (groups_in d)) d.types → ⊥
  unmet_same gs ts groups types none h =
      true≢false (sym (none (subst (λ (g : Groups). HasSome (MembersMeet g) ts) (sym groups) (subst (λ (t : List TypeDraft). HasSome (MembersMeet (groups_in d)) t) (sym types) h))))

  pub misplaced_same : (gs : Groups) (cs : List Cascade) (b : Bool) → gs ≡ groups_in d → cs ≡ cascades_in d.types → b ≡ list_any (is_misplaced gs) cs → list_any (is_misplaced (groups_in d)) (cascades_in d.types) ≡ b
  misplaced_same gs cs b groups cascades is = sym (is ∙ ap (λ (g : Groups). list_any (is_misplaced g) cs) groups ∙ ap (list_any (is_misplaced (groups_in d))) cascades)

-- ---- where a fault of the groups by themselves is

or_second_of : {P : Type 0} (a b : Option P) → a ≡ None → b ≡ option_or a b
or_second_of a b none = rw none refl

nothing : {P : Type 0} (o : Option P) → is_some o ≡ false → o ≡ None
nothing None is = refl
nothing (Some p) is = absurd (true≢false is)

grouped_at : (found : Option GroupingAt) (o : Option NameAt) → found ≡ option_map group_at o → is_some o ≡ true → IsTrue (is_some found)
grouped_at found o same is = ap is_some same ∙ map_told group_at o ∙ is

pub fault_alone : (d : Drafted) (f : GroupingFault) (found : Option GroupingAt) → IsFaultOf (groups_in d) f → IsAtGroup (groups_in d) f found
    → unknown_in (groups_in d) (uses_in d.types) d.types (cascades_in d.types) d.forms ≡ None → IsAt d f found
fault_alone d UnknownGroup found is at none =
    let gs = groups_in d in
    (at ∙ or_second_of (unknown_in gs (uses_in d.types) d.types (cascades_in d.types) d.forms) (option_map group_at (unknown_name gs)) none, grouped_at found (unknown_name gs) at (unknown_told gs ∙ is))
fault_alone d CyclicInheritance found is at none = at
fault_alone d CyclicSequence found is at none = at
fault_alone d SequenceMisused found is at none =
    let gs = groups_in d in
    let some : is_some (inherited_sequence gs) ≡ true = inherited_told gs ∙ is.3 in
    (at ∙ first_stays (inherited_sequence gs) (misused_in gs (uses_in d.types)) some, grouped_at found (inherited_sequence gs) at some)
  where
    first_stays : (o : Option NameAt) (later : Option GroupingAt) → is_some o ≡ true → option_map group_at o ≡ option_or (option_map group_at o) later
    first_stays None later is = absurd (true≢false (sym is))
    first_stays (Some p) later is = refl
fault_alone d SequenceLacksType found is at none = absurd is
fault_alone d DefaultInTypeSequence found is at none = absurd is
fault_alone d ConversionMisplaced found is at none = absurd is
fault_alone d Memory found is at none = absurd is

-- ---- where a draft has a fault

-- what is found is found in lists that are the draft's
pub unknown_same : (d : Drafted) (gs : Groups) (us : List DraftUse) (cs : List Cascade) (found : Option GroupingAt) → gs ≡ groups_in d → us ≡ uses_in d.types → cs ≡ cascades_in d.types → found ≡ unknown_in gs us d.types cs d.forms
    → found ≡ unknown_in (groups_in d) (uses_in d.types) d.types (cascades_in d.types) d.forms
unknown_same d gs us cs found groups uses cascades is =
    is ∙ ap (λ (g : Groups). unknown_in g us d.types cs d.forms) groups ∙ ap (λ (u : List DraftUse). unknown_in (groups_in d) u d.types cs d.forms) uses
    ∙ ap (λ (c : List Cascade). unknown_in (groups_in d) (uses_in d.types) d.types c d.forms) cascades

pub name_at : (d : Drafted) (at : GroupingAt) → Some at ≡ unknown_in (groups_in d) (uses_in d.types) d.types (cascades_in d.types) d.forms → IsAt d UnknownGroup (Some at)
name_at d at is = (ap (λ o. option_or o (option_map group_at (unknown_name (groups_in d)))) is, refl)

pub use_at : (d : Drafted) (gs : Groups) (us : List DraftUse) (at : GroupingAt) → AreSound (groups_in d) → gs ≡ groups_in d → us ≡ uses_in d.types → Some at ≡ misused_in gs us → IsAt d SequenceMisused (Some at)
use_at d gs us at sound groups uses is =
    let here : Some at ≡ misused_in (groups_in d) (uses_in d.types) = is ∙ ap (λ (g : Groups). misused_in g us) groups ∙ ap (misused_in (groups_in d)) uses in
    let none : inherited_sequence (groups_in d) ≡ None = nothing (inherited_sequence (groups_in d)) (inherited_told (groups_in d) ∙ sound.proper) in
    (here ∙ ap (λ o. option_or (option_map group_at o) (misused_in (groups_in d) (uses_in d.types))) (sym none), refl)
