use Rattle.std.proofs.Common.{◌≡◌, ◌≢◌, ◌∙◌, ℕ, List, Vec, true, false, length, is_some, sym, ap, subst}
use Rattle.std.specs.declared.alloc.Global.{Global}
use Rattle.fv_graph.specs.Graph.{next_of, IsCyclic}
use Rattle.fv_declare_schema.specs.Groups.{Groups, inherit_next, member_next}
use Rattle.fv_declare_schema.specs.Judged.{AreSound, IsFault, has_unknown_group, has_inherited_sequence}
use Rattle.fv_declare_schema.specs.Marked.{AreMeetingIn}
use Rattle.fv_declare_schema.specs.Tables.{AreEdges}
use Rattle.fv_declare_schema.specs.declared.fault.GroupFault.TheVariants.{UnknownGroup, CyclicInheritance, CyclicSequence, SequenceMisused, TooLarge}
use Rattle.fv_declare_schema.proofs.Edges.{inherited_edges, member_edges, inherited_within, members_within, cyclic_same, acyclic_same, meeting_same}
use Rattle.fv_declare_schema.proofs.FaultPlaces.{not_large, unknown_told, inherited_told}
use Rattle.fv_declare_schema.proofs.graph.GroupGraph.new.Goals as goal

pub returns-in-Some-clause-made : goal.returns-in-Some-clause-made
returns-in-Some-clause-made c =
    let gs : Groups = c.new-groups.result in
    let unknown : has_unknown_group gs ≡ true = sym (ap is_some c.in-Some.ensures ∙ unknown_told c.new-groups.result) in
    subst (λ (es : Groups). (UnknownGroup ≢ TooLarge) × IsFault es UnknownGroup) c.new-groups.ensures (not_large, unknown)

pub new-requires : goal.new-requires
new-requires c =
    let gs : Groups = c.new-groups.result in
    let edges = c.in_ok-inherited.field-0.items in
    inherited_within gs edges (inherited_edges gs edges c.in_ok-inherited.ensures)

pub returns-in_default-2-clause-made : goal.returns-in_default-2-clause-made
returns-in_default-2-clause-made c =
    let gs : Groups = c.new-groups.result in
    let edges = c.in_ok-inherited.field-0.items in
    let are : AreEdges (inherit_next gs) (length gs) edges = inherited_edges gs edges c.in_ok-inherited.ensures in
    let known : has_unknown_group gs ≡ false = sym (ap is_some c.in_default.ensures ∙ unknown_told c.new-groups.result) in
    let cycle : IsCyclic (next_of edges) = rw c.in_default-2.is at c.in_ok-inheritance.ensures in
    subst (λ (es : Groups). (CyclicInheritance ≢ TooLarge) × IsFault es CyclicInheritance) c.new-groups.ensures
    (λ e. cc, (known, cyclic_same (next_of edges) (inherit_next gs) are.1 cycle))

pub new-requires-2 : goal.new-requires-2
new-requires-2 c =
    let gs : Groups = c.new-groups.result in
    let edges = c.in_ok-members.field-0.items in
    members_within gs edges (member_edges gs edges c.in_ok-members.ensures)

pub returns-in_default-3-clause-made : goal.returns-in_default-3-clause-made
returns-in_default-3-clause-made c =
    let gs : Groups = c.new-groups.result in
    let edges = c.in_ok-inherited.field-0.items in
    let edges' = c.in_ok-members.field-0.items in
    let are : AreEdges (inherit_next gs) (length gs) edges = inherited_edges gs edges c.in_ok-inherited.ensures in
    let are' : AreEdges (member_next gs) (length gs) edges' = member_edges gs edges' c.in_ok-members.ensures in
    let known : has_unknown_group gs ≡ false = sym (ap is_some c.in_default.ensures ∙ unknown_told c.new-groups.result) in
    let found = rw c.in-Some-2.is at c.in_ok-inheritance.ensures in
    let cycle : IsCyclic (next_of edges') = rw c.in_default-3.is at c.in_ok-expansion.ensures in
    subst (λ (es : Groups). (CyclicSequence ≢ TooLarge) × IsFault es CyclicSequence) c.new-groups.ensures
    (λ e. cc, (known, acyclic_same (next_of edges) (inherit_next gs) are.1 found.1, cyclic_same (next_of edges') (member_next gs) are'.1 cycle))

pub returns-in-Some-inherited_sequence-clause-made : goal.returns-in-Some-inherited_sequence-clause-made
returns-in-Some-inherited_sequence-clause-made c =
    let gs : Groups = c.new-groups.result in
    let edges = c.in_ok-inherited.field-0.items in
    let edges' = c.in_ok-members.field-0.items in
    let are : AreEdges (inherit_next gs) (length gs) edges = inherited_edges gs edges c.in_ok-inherited.ensures in
    let are' : AreEdges (member_next gs) (length gs) edges' = member_edges gs edges' c.in_ok-members.ensures in
    let known : has_unknown_group gs ≡ false = sym (ap is_some c.in_default.ensures ∙ unknown_told c.new-groups.result) in
    let misused : has_inherited_sequence gs ≡ true = sym (ap is_some c.in-Some-inherited_sequence.ensures ∙ inherited_told c.new-groups.result) in
    let found = rw c.in-Some-2.is at c.in_ok-inheritance.ensures in
    let found' = rw c.in-Some-3.is at c.in_ok-expansion.ensures in
    subst (λ (es : Groups). (SequenceMisused ≢ TooLarge) × IsFault es SequenceMisused) c.new-groups.ensures
    (λ e. cc, (known, acyclic_same (next_of edges) (inherit_next gs) are.1 found.1, acyclic_same (next_of edges') (member_next gs) are'.1 found'.1, misused))

pub meeting_default-requires-clause-inheritance : goal.meeting_default-requires-clause-inheritance
meeting_default-requires-clause-inheritance c =
    let gs : Groups = c.new-groups.result in
    let edges = c.in_ok-inherited.field-0.items in
    let found = rw c.in-Some-2.is at c.in_ok-inheritance.ensures in
    ap length found.0 ∙ (inherited_edges gs edges c.in_ok-inherited.ensures).0 ∙ sym c.count.ensures

pub meeting_default-requires-clause-expansion : goal.meeting_default-requires-clause-expansion
meeting_default-requires-clause-expansion c =
    let gs : Groups = c.new-groups.result in
    let edges' = c.in_ok-members.field-0.items in
    let found' = rw c.in-Some-3.is at c.in_ok-expansion.ensures in
    ap length found'.0 ∙ (member_edges gs edges' c.in_ok-members.ensures).0 ∙ sym c.count.ensures

pub invariant_of-result : goal.invariant_of-result
invariant_of-result c =
    let gs : Groups = c.new-groups.result in
    let edges = c.in_ok-inherited.field-0.items in
    let edges' = c.in_ok-members.field-0.items in
    let found = rw c.in-Some-2.is at c.in_ok-inheritance.ensures in
    let found' = rw c.in-Some-3.is at c.in_ok-expansion.ensures in
    let are : AreEdges (inherit_next gs) (length gs) edges = inherited_edges gs edges c.in_ok-inherited.ensures in
    let are' : AreEdges (member_next gs) (length gs) edges' = member_edges gs edges' c.in_ok-members.ensures in
    let kept : AreEdges (inherit_next gs) (length gs) c.in-Some-2.inheritance = subst (λ (es : List (Vec ℕ Global)). AreEdges (inherit_next gs) (length gs) es) (sym found.0) are in
    let kept' : AreEdges (member_next gs) (length gs) c.in-Some-3.expansion = subst (λ (es : List (Vec ℕ Global)). AreEdges (member_next gs) (length gs) es) (sym found'.0) are' in
    let flags = c.in_ok-meeting.meeting.items in
    let meets : AreMeetingIn (next_of c.in-Some-2.inheritance) (next_of c.in-Some-3.expansion) (length gs) flags =
    subst (λ (n : ℕ). AreMeetingIn (next_of c.in-Some-2.inheritance) (next_of c.in-Some-3.expansion) n flags) c.count.ensures c.in_ok-meeting.ensures in
    record {
      sound = record {
        known = sym (ap is_some c.in_default.ensures ∙ unknown_told c.new-groups.result);
        inheritance = acyclic_same (next_of edges) (inherit_next gs) are.1 found.1;
        expansion = acyclic_same (next_of edges') (member_next gs) are'.1 found'.1;
        proper = sym (ap is_some c.in_default-inherited_sequence.ensures ∙ inherited_told c.new-groups.result);
      };
      inherited_are = kept;
      members_are = kept';
      meeting_are = meeting_same gs (next_of c.in-Some-2.inheritance) (next_of c.in-Some-3.expansion) flags kept.1 kept'.1 meets;
      limit_is = c.passed_limit-limit.ensures;
    }

pub returns-clause-made : goal.returns-clause-made
returns-clause-made c =
    let gs : Groups = c.new-groups.result in
    let edges = c.in_ok-inherited.field-0.items in
    let edges' = c.in_ok-members.field-0.items in
    let found = rw c.in-Some-2.is at c.in_ok-inheritance.ensures in
    let found' = rw c.in-Some-3.is at c.in_ok-expansion.ensures in
    let sound : AreSound gs = record {
      known = sym (ap is_some c.in_default.ensures ∙ unknown_told c.new-groups.result);
      inheritance = acyclic_same (next_of edges) (inherit_next gs) (inherited_edges gs edges c.in_ok-inherited.ensures).1 found.1;
      expansion = acyclic_same (next_of edges') (member_next gs) (member_edges gs edges' c.in_ok-members.ensures).1 found'.1;
      proper = sym (ap is_some c.in_default-inherited_sequence.ensures ∙ inherited_told c.new-groups.result);
    } in
    (c.new-groups.ensures, subst AreSound c.new-groups.ensures sound)
