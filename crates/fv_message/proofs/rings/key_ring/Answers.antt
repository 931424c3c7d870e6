use Rattle.std.proofs.Common.{◌≡◌, ◌∙◌, ℕ, List, map, Vec, Global, string_bytes, sym, ap, subst}
use Rattle.fv_graph.specs.Graph.{AreWithin, next_of}
use Rattle.fv_message.specs.Judged.{IsCircular}
use Rattle.fv_message.specs.Measured.{AreEdgesOf}
use Rattle.fv_message.specs.Numbers.{AreReadable, next_keys}
use Rattle.fv_message.specs.Table.{Messages}
use Rattle.fv_message.specs.Views.{messages_view}
use Rattle.fv_message.specs.Whereabouts.{name_at, IsKeyRing}
use Rattle.fv_message.proofs.Cycles.{edges_within, edges_same}
use Rattle.fv_message.proofs.KeyRings.{readable_of, ring_found, none_found}
use Rattle.fv_message.proofs.rings.key_ring.Goals as goal

-- the keys that the edges lead to, of what was handed over
same_next : (ms all : Messages) (edges seen : List (Vec ℕ Global)) → ms ≡ all → seen ≡ edges → AreEdgesOf ms edges → AreReadable all → (i : ℕ) → next_of seen i ≡ next_keys ms i
same_next ms all edges seen same is are readable i =
    ap (λ (l : List (Vec ℕ Global)). next_of l i) is ∙ edges_same ms edges are (subst (λ (m : Messages). AreReadable m) (sym same) readable) i

pub ring-requires : goal.ring-requires
ring-requires c =
    subst (λ (l : List (Vec ℕ Global)). AreWithin l) (sym c.deref.ensures.value) (edges_within c.in_ok-messages.messages c.in_ok-edges.edges.items c.in_ok-edges.ensures)

pub returns-in-None : goal.returns-in-None
returns-in-None c = λ well circular.
    let ms = c.in_ok-messages.messages in
    let same = same_next ms _ c.in_ok-edges.edges.items c.deref.result.now c.in_ok-messages.ensures c.deref.ensures.value c.in_ok-edges.ensures (readable_of (messages_view c.args.user) well) in
    none_found ms c.in_ok-ring.field-0 c.in-None.is (c.in_ok-ring.ensures (next_keys ms) same) (subst (λ (m : Messages). IsCircular m) (sym c.in_ok-messages.ensures) circular)

pub returns : goal.returns
returns c = λ well.
    let ms = c.in_ok-messages.messages in
    let same = same_next ms _ c.in_ok-edges.edges.items c.deref.result.now c.in_ok-messages.ensures c.deref.ensures.value c.in_ok-edges.ensures (readable_of (messages_view c.args.user) well) in
    let both = ring_found ms c.in_ok-ring.field-0 c.in-Some.keys c.in-Some.is (c.in_ok-ring.ensures (next_keys ms) same) in
    subst (λ (m : Messages). IsCircular m × IsKeyRing m (map string_bytes c.in_ok-names_of-in-Some.field-0.items)) c.in_ok-messages.ensures
    (both.0, subst (λ (names : List (List ℕ)). IsKeyRing ms names) (sym (c.in_ok-names_of-in-Some.ensures ∙ ap (λ (l : List ℕ). map (name_at ms) l) c.deref-in-Some.ensures.value)) both.1)
