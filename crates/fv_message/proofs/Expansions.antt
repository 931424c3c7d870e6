-- Expansions that grow part by part.
use Rattle.std.proofs.Common.{◌≡◌, ◌<◌, ◌≤◌, ℕ, List, [], ◌∷◌, ◌++◌, take, length, get_or, Option, Some, Result, Ok, Err, OnOk, inl, refl, sym, ap, subst, ◌∙◌, append_assoc}
use Rattle.std.specs.List.{cons_option, flat_map}
use Rattle.std.specs.Option.{option_map_or}
use Rattle.std.proofs.lemmas.List.{append-nil, take_all}
use Rattle.fv_datum.specs.Attributes.{Attributes}
use Rattle.fv_graph.specs.Graph.{IsIn}
use Rattle.fv_message.specs.Expanded.{slot_text, expansion_text, GrowsBy, IsExpansion, AreExpanded}
use Rattle.fv_message.specs.Full.{shown}
use Rattle.fv_message.specs.Evaluated.{key_text, full_pieces}
use Rattle.fv_message.specs.Table.{Messages}
use Rattle.fv_message.specs.Numbers.{number_of, keys_in}
use Rattle.fv_message.specs.Template.{Piece, parameter}
use Rattle.fv_message.specs.declared.expansion.Slot.{Slot}
use Rattle.fv_message.specs.declared.expansion.Expansion.{Expansion}

-- what follows from what an answer tells
pub onward : {E P Q : Type 0} (r : Result (Unit {0}) E) → (P → Q) → OnOk r P → OnOk r Q
onward (Ok x) f p = f p
onward (Err e) f p = tt

-- one text behind another
pub grows_more : (f g : Attributes → List ℕ) (a b c : Expansion) → GrowsBy f a b → GrowsBy g b c → GrowsBy (λ attributes. f attributes ++ g attributes) a c
grows_more f g a b c first second = λ attributes.
    second attributes ∙ ap (λ (l : List ℕ). l ++ g attributes) (first attributes) ∙ append_assoc (expansion_text attributes a) (f attributes) (g attributes)

-- the same text behind, told otherwise
pub grows_same : (f g : Attributes → List ℕ) (a b : Expansion) → ((attributes : Attributes) → f attributes ≡ g attributes) → GrowsBy f a b → GrowsBy g a b
grows_same f g a b same grown = λ attributes. grown attributes ∙ ap (λ (l : List ℕ). expansion_text attributes a ++ l) (same attributes)

-- the text of all slots
pub slots_all : (attributes : Attributes) (items slots : List Slot) (i : ℕ) → length items ≤ i → items ≡ slots
    → flat_map (slot_text attributes) (take i items) ≡ flat_map (slot_text attributes) slots
slots_all attributes items slots i more same = ap (λ (l : List Slot). flat_map (slot_text attributes) l) (take_all i items more ∙ same)

-- ---- keys

-- a parameter that is a key becomes what the key's text becomes
pub key_piece : (ms : Messages) (attributes : Attributes) (name : List ℕ) (i : ℕ) → number_of ms name ≡ Some i → key_text ms attributes i ≡ full_pieces ms attributes (parameter name ∷ [])
key_piece ms attributes name i n =
    sym (append-nil (key_text ms attributes i)) ∙ ap (λ (o : Option ℕ). option_map_or (key_text ms attributes) o (shown attributes name) ++ []) (sym n)

-- a key that a part is has its expansion
pub key_there : (ms : Messages) (ps : List Piece) (name : List ℕ) (i : ℕ) (es : List Expansion) → ps ≡ parameter name ∷ [] → number_of ms name ≡ Some i
    → AreExpanded ms (keys_in ms ps) es → (i < length es) × ((d : Expansion) → IsExpansion ms i (get_or es i d))
key_there ms ps name i es is n below = below i (rw is (subst (λ (o : Option ℕ). IsIn (cons_option o []) i) (sym n) (inl refl)))
