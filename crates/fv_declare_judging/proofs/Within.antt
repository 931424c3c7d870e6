-- Groups are named by numbers that are theirs.
use Rattle.std.proofs.Common.{◌≡◌, ◌<◌, ◌+◌, ℕ, List, [], ◌∷◌, map, length, Bool, true, false, cond, if◌then◌else◌, Option, Some, None, option_map, bytes_eq, inl, inr, refl, subst}
use Rattle.std.specs.Prelude.{option_and_then, filter_map}
use Rattle.std.specs.List.{cons_option, flat_map, AllByRecursion}
use Rattle.std.specs.Option.{option_map_or, IfSome}
use Rattle.fv_declare_draft.specs.Cascades.{Conversion}
use Rattle.fv_declare_draft.specs.Drafts.{TypeDraft, FormDraft}
use Rattle.fv_graph.specs.Graph.{mem, IsIn}
use Rattle.fv_declare_groups.specs.Numbered.{groups_named, member_ranks, own_ranks, type_ranks, converted, valid_place, valid_places}
use Rattle.fv_declare_schema.specs.Groups.{Groups, group_number, numbers_of, ranks}
use Rattle.fv_declare_schema.specs.Once.{once_after}
use Rattle.fv_declare_schema.proofs.Edges.{numbers_below}
use Rattle.fv_declare_schema.proofs.Plain.{ranks_plain}
use Rattle.fv_constraint_tree.specs.Nodes.{Node}
use Rattle.fv_constraint_tree.specs.Trees.{Tree, size}
use Rattle.fv_declare_draft.specs.AllCascades.{Cascade}
use Rattle.fv_declare_draft.specs.AllUses.{DraftUse}
use Rattle.fv_declare_judging.specs.Schemas.{form_grouped}
use Rattle.fv_declare_judging.specs.Judging.{placed_from}
use Rattle.fv_declare_schema.specs.Ordered.{AreGroups, AreConversions}
use Rattle.fv_declare_judging.proofs.Alls.{all_append}

-- what each of a list has
each_in : {X : Type 0} (P : X → Type 0) (xs : List X) → ((x : X) → IsIn xs x → P x) → AllByRecursion P xs
each_in P [] h = tt
each_in P (x ∷ xs) h = (h x (inl refl), each_in P xs (λ y k. h y (inr k)))

module _ (gs : Groups) where
  numbers_within : (names : List (List ℕ)) → AreGroups gs (numbers_of gs names)
  numbers_within names = each_in (λ g. g < length gs) (numbers_of gs names) (λ j k. numbers_below gs names j k)

  ranks_within : (g : ℕ) → g < length gs → AreGroups gs (ranks gs g)
  ranks_within g less = each_in (λ r. r < length gs) (ranks gs g) (λ j k. (ranks_plain gs g j less k).0)

  number_within : (name : List ℕ) (i : ℕ) → group_number gs name ≡ Some i → i < length gs
  number_within name i is = numbers_below gs (name ∷ []) i (go (group_number gs name) is)
    where
      go : (o : Option ℕ) → o ≡ Some i → IsIn (cons_option o []) i
      go None e = absurd (cc)
      go (Some k) e = inl (cc)

  all_once : (done xs : List ℕ) → AreGroups gs xs → AreGroups gs (once_after done xs)
  all_once done [] h = tt
  all_once done (x ∷ xs) h = go (mem done x) (all_once done xs h.1) (all_once (x ∷ done) xs h.1)
    where
      go : (b : Bool) → AreGroups gs (once_after done xs) → AreGroups gs (once_after (x ∷ done) xs) → AreGroups gs (cond b (once_after done xs) (x ∷ once_after (x ∷ done) xs))
      go true old new = old
      go false old new = (h.0, new)

  module _ (some : 0 < length gs) where
    pub named_within : (names : List (List ℕ)) → AreGroups gs (groups_named gs names)
    named_within [] = (some, tt)
    named_within (name ∷ names) = numbers_within (name ∷ names)

    pub uses_within : (n : ℕ) (us : List DraftUse) (ts : List (Tree Node)) → AllByRecursion (λ u. AreGroups gs u.groups) (placed_from gs n us ts)
    uses_within n [] ts = tt
    uses_within n (u ∷ us) [] = tt
    uses_within n (u ∷ us) (t ∷ ts) = (named_within u.draft.groups, uses_within (n + size t) us ts)

    pub forms_within : (fs : List FormDraft) → AllByRecursion (λ f. AreGroups gs f.1) (map (form_grouped gs) fs)
    forms_within [] = tt
    forms_within (f ∷ fs) = (named_within f.groups, forms_within fs)

    members_within : (type name : List ℕ) → AreGroups gs (member_ranks gs type name)
    members_within type name = go (bytes_eq name type) (group_number gs name) (λ i e. number_within name i e)
      where
        go : (b : Bool) (o : Option ℕ) → ((i : ℕ) → o ≡ Some i → i < length gs) → AreGroups gs (cond b (0 ∷ []) (option_map_or (ranks gs) o []))
        go true o h = (some, tt)
        go false None h = tt
        go false (Some i) h = ranks_within i (h i refl)

    all_members : (type : List ℕ) (names : List (List ℕ)) → AreGroups gs (flat_map (member_ranks gs type) names)
    all_members type [] = tt
    all_members type (name ∷ names) = all_append (λ g. g < length gs) (member_ranks gs type name) (flat_map (member_ranks gs type) names) (members_within type name) (all_members type names)

    pub sequences_within : (ts : List TypeDraft) → AllByRecursion (λ s. IfSome s (AreGroups gs)) (map (type_ranks gs) ts)
    sequences_within [] = tt
    sequences_within (t ∷ ts) = (go t.sequence, sequences_within ts)
      where
        go : (o : Option (List (List ℕ))) → IfSome (option_map (own_ranks gs t.name) o) (AreGroups gs)
        go None = tt
        go (Some names) = all_once [] (flat_map (member_ranks gs t.name) names) (all_members t.name names)

  one_within : (o : Option (ℕ × ℕ)) (rest : List (ℕ × ℕ)) → ((c : ℕ × ℕ) → o ≡ Some c → (c.0 < length gs) × (c.1 < length gs)) → AreConversions gs rest → AreConversions gs (cons_option o rest)
  one_within None rest h k = k
  one_within (Some c) rest h k = (h c refl, k)

  pair_within : (a b : Option ℕ) → ((i : ℕ) → a ≡ Some i → i < length gs) → ((i : ℕ) → b ≡ Some i → i < length gs) → (c : ℕ × ℕ)
      → option_and_then (λ from. option_map (λ to. (from, to)) b) a ≡ Some c → (c.0 < length gs) × (c.1 < length gs)
  pair_within None b h k c e = absurd (cc)
  pair_within (Some i) None h k c e = absurd (cc)
  pair_within (Some i) (Some j) h k c e = subst (λ (p : ℕ × ℕ). (p.0 < length gs) × (p.1 < length gs)) (cc) (h i refl, k j refl)

  conversions_within : (cs : List Conversion) → AreConversions gs (filter_map (converted gs) cs)
  conversions_within [] = tt
  conversions_within (c ∷ cs) =
      one_within (converted gs c) (filter_map (converted gs) cs)
      (λ p e. pair_within (group_number gs c.from) (group_number gs c.to) (λ i k. number_within c.from i k) (λ i k. number_within c.to i k) p e)
      (conversions_within cs)

  pub places_within : (cs : List Cascade) → AllByRecursion (λ p. AreConversions gs p.conversions) (valid_places gs cs)
  places_within [] = tt
  places_within (c ∷ cs) = go c.placed.cascade.valid (places_within cs)
    where
      go : (b : Bool) → AllByRecursion (λ p. AreConversions gs p.conversions) (valid_places gs cs)
          → AllByRecursion (λ p. AreConversions gs p.conversions) (cons_option (if b then Some (valid_place gs c) else None) (valid_places gs cs))
      go true rest = (conversions_within c.placed.cascade.conversions, rest)
      go false rest = rest
