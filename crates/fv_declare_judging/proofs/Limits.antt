-- A limit is told exactly where one is passed.
use Rattle.std.proofs.Common.{◌≡◌, ◌≢◌, ◌||◌, ◌⊎◌, inl, inr, List, length, nat_lt, Bool, true, false, if◌then◌else◌, Option, Some, None, option_map, is_some, Result, Ok, Err, IfOk, IfErr, refl, sym, ap, ap₂, ◌∙◌, true≢false, arith}
use Rattle.fv_constraint.specs.Composed.{Planned}
use Rattle.fv_constraint_tree.specs.Trees.{Tree}
use Rattle.fv_declare_draft.specs.Drafts.{Drafted}
use Rattle.fv_declare_groups.specs.Grouping.{groups_in, is_long_sequence}
use Rattle.fv_declare_schema.specs.Declarations.{count_nodes}
use Rattle.fv_first.specs.First.{first_where}
use Rattle.fv_first.proofs.Laws.{map_told, when_told, where_told}
use Rattle.fv_declare_schema.specs.Whereabouts.{passed_limit}
use Rattle.fv_declare_schema.proofs.FaultPlaces.{limit_told}
use Rattle.fv_message.specs.Table.{Messages, all_messages}
use Rattle.fv_message.specs.declared.fault.MessageFault.{MessageFault}
use Rattle.fv_message.specs.declared.fault.MessageFault.TheVariants as message
use Rattle.fv_bundle.specs.Types.{too_many}
use Rattle.fv_bundle.specs.declared.fault.TypesAt.{TypesAt}
use Rattle.fv_declare_judging.specs.Conditions.{has_many, too_large}
use Rattle.fv_declare_judging.specs.Judging.{lacks_memory}
use Rattle.fv_declare_judging.specs.LimitPlaces.{declared_limit, crowded_from, first_limit}
use Rattle.fv_declare_judging.specs.Types.{types_declared}
use Rattle.fv_declare_judging.specs.Wording.{IsTooLarge, IsFirstFault}
use Rattle.fv_declare_judging.specs.WordingPlaces as wording
use Rattle.fv_declare_judging.specs.WordingPlaces.{IsWordedAt, IsWordyAt, flawed_template}
use Rattle.fv_declare_judging.specs.declared.placed.LimitAt.TheVariants as at
use Rattle.fv_declare_judging.specs.declared.placed.PlacedWording.{PlacedWording}
use Rattle.fv_declare_judging.specs.declared.placed.WordingAt.{WordingAt}
use Rattle.fv_declare_judging.specs.declared.placed.WordingAt.TheVariants as place
use Rattle.fv_declare_judging.proofs.Counts.{crowded_told}
use Rattle.fv_declare_judging.proofs.Named.{four_told}

-- what else is declared
many_told : (d : Drafted) → is_some (declared_limit d) ≡ has_many d
many_told d =
    four_told (if nat_lt 256 (length d.forms) then Some at.Forms else None) (if nat_lt 256 (length d.definitions) then Some at.Definitions else None) (option_map at.Groups (passed_limit (groups_in d))) (option_map at.Sequence (first_where is_long_sequence d.types))
    ∙ ap₂ (λ (a b : Bool). a || b)
    (ap₂ (λ (a b : Bool). a || b)
    (ap₂ (λ (a b : Bool). a || b) (when_told (nat_lt 256 (length d.forms)) at.Forms) (when_told (nat_lt 256 (length d.definitions)) at.Definitions))
    (map_told at.Groups (passed_limit (groups_in d)) ∙ limit_told (groups_in d)))
    (map_told at.Sequence (first_where is_long_sequence d.types) ∙ where_told is_long_sequence d.types)

-- all of them
all_told : (d : Drafted) (types : Option TypesAt) (w : Option WordingAt) (ts : List (Tree Planned)) → is_some types ≡ too_many (types_declared d)
    → is_some (first_limit types d w ts) ≡ (((too_many (types_declared d) || has_many d) || is_some w) || nat_lt 1024 (count_nodes ts))
all_told d types w ts same =
    four_told (option_map at.Types types) (declared_limit d) (option_map at.Wording w) (option_map at.Use (crowded_from 0 0 ts))
    ∙ ap₂ (λ (a b : Bool). a || b)
    (ap₂ (λ (a b : Bool). a || b)
    (ap₂ (λ (a b : Bool). a || b) (map_told at.Types types ∙ same) (many_told d))
    (map_told at.Wording w))
    (map_told at.Use (crowded_from 0 0 ts) ∙ crowded_told 0 0 ts refl ∙ ap (nat_lt 1024) (omega arith))

which : (a b c e : Bool) → (((a || b) || c) || e) ≡ true → (((a || b) || e) ≡ true) ⊎ (c ≡ true)
which true b c e h = inl refl
which false true c e h = inl refl
which false false true e h = inr refl
which false false false e h = inl h

neither : (a b c e : Bool) → (((a || b) || c) || e) ≡ false → (((a || b) || e) ≡ false) × (c ≡ false)
neither true b c e h = cc
neither false true c e h = cc
neither false false true e h = cc
neither false false false e h = (h, refl)

module _ (d : Drafted) (types : Option TypesAt) (same : is_some types ≡ too_many (types_declared d)) (w : Option WordingAt) (wordy : IsWordyAt d w) (ts : List (Tree Planned)) where
  large_if : (o : Option WordingAt) → IsWordyAt d o → is_some o ≡ true → IsTooLarge d
  large_if None h e = cc
  large_if (Some p) h e = h.0

  small_if : (o : Option WordingAt) → IsWordyAt d o → is_some o ≡ false → IsTooLarge d → ⊥
  small_if None h e = h
  small_if (Some p) h e = cc

  -- where a limit is told one is passed
  pub limit_large : is_some (first_limit types d w ts) ≡ true → (too_large d ts ≡ true) ⊎ IsTooLarge d
  unfolding too_large
  limit_large is = elim (which (too_many (types_declared d)) (has_many d) (is_some w) (nat_lt 1024 (count_nodes ts)) (sym (all_told d types w ts same) ∙ is)) [
    | inl many ↦ inl many
    | inr worded ↦ inr (large_if w wordy worded)
  ]

  -- and where none is told none is
  pub limit_small : is_some (first_limit types d w ts) ≡ false → (too_large d ts ≡ true) ⊎ IsTooLarge d → ⊥
  unfolding too_large
  limit_small is (inl large) = true≢false (sym large ∙ (neither (too_many (types_declared d)) (has_many d) (is_some w) (nat_lt 1024 (count_nodes ts)) (sym (all_told d types w ts same) ∙ is)).0)
  limit_small is (inr large) = small_if w wordy (neither (too_many (types_declared d)) (has_many d) (is_some w) (nat_lt 1024 (count_nodes ts)) (sym (all_told d types w ts same) ∙ is)).1 large

-- ---- the wording

-- a limit of the wording has its place
placed_some : (d : Drafted) (o : Option WordingAt) → IsWordedAt d message.TooLarge o → (p : WordingAt) × (o ≡ Some p)
placed_some d None (inl h) = absurd (true≢false (sym h.1 ∙ ap is_some (sym h.0)))
placed_some d None (inr (none, (m, inl h, is))) = absurd (true≢false (sym h.1 ∙ sym (map_told place.Messages m) ∙ ap is_some (sym is)))
placed_some d None (inr (none, (m, inr h, is))) = absurd (true≢false (sym (ap is_some h.1.1) ∙ sym (map_told place.Messages m) ∙ ap is_some (sym is)))
placed_some d (Some p) h = (p, refl)

wordy_at : (d : Drafted) (o : Option WordingAt) → IsTooLarge d → IsWordedAt d message.TooLarge o → IsWordyAt d o
wordy_at d None large h = let p = placed_some d None h in absurd (true≢false (sym (ap is_some p.1)))
wordy_at d (Some p) large h = (large, h)

-- where memory wasn't refused, the first fault of the wording is told, and which limit of it is passed
pub wording_told : (d : Drafted) (told : Result Messages PlacedWording) → lacks_memory (wording.fault_told told) ≡ false → IfOk told (λ m. (m ≡ all_messages d.messages) × IsFirstFault d None)
    → IfErr told (λ p. p.fault ≢ message.Memory → IsFirstFault d (Some p.fault)) → IfErr told (λ p. p.fault ≢ message.Memory → IsWordedAt d p.fault p.at)
    → IsFirstFault d (wording.fault_told told) × IsWordyAt d (wording.limit_told told)
wording_told d (Ok m) kept taken refused placed = (taken.1, taken.1.0)
wording_told d (Err p) kept taken refused placed = go p.fault p.at kept refused placed
  where
    go : (f : MessageFault) (at : Option WordingAt) → lacks_memory (Some f) ≡ false → (f ≢ message.Memory → IsFirstFault d (Some f)) → (f ≢ message.Memory → IsWordedAt d f at)
        → IsFirstFault d (Some f) × IsWordyAt d (wording.limit_told {T = Messages} (Err (wording.worded_at f at)))
    go message.TooLarge at kept refused placed = let first = refused (λ e. cc) in (first, wordy_at d at first (placed (λ e. cc)))
    go message.MessageSyntax at kept refused placed = let first = refused (λ e. cc) in (first, first.0)
    go message.MessageCycle at kept refused placed = let first = refused (λ e. cc) in (first, first.0)
    go message.Memory at kept refused placed = cc
