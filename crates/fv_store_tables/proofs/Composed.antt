-- Why steps that follow one another are refused.
use Rattle.std.proofs.Common.{◌++◌, ◌≤◌, zero, suc, take, ℕ, List, [], ◌∷◌, IsSome, Ok, Err, Result, IfErr}
use Rattle.sqlite.specs.Effect.{Database}
use Rattle.fv_store_tables.specs.declared.text.ObjectText.{ObjectText}
use Rattle.fv_store_tables.specs.Stands.{ObjectTexts, Maps, IsOwned, added}
use Rattle.fv_store_tables.specs.Changes.{AllTexts, all_added, objects_view}
use Rattle.fv_store_tables.specs.Causes.{HasRooms, IsShortPart, AreShort}
use Rattle.fv_store_tables.proofs.Rooms.{fewer}
use Rattle.fv_store_tables.proofs.Writes.{owned_added}

pub fewer_rooms : (k n : ℕ) (db : Database) → k ≤ n → HasRooms n db → HasRooms k db
fewer_rooms k n db less room = (fewer k n (db.trees 1) less room.0, fewer k n (db.trees 3) less room.1)

-- what is known of a refusal is known in other words
pub more_on_err : {X E : Type 0} (P Q : E → Type 0) (r : Result X E) → ((e : E) → P e → Q e) → IfErr r P → IfErr r Q
more_on_err P Q (Ok x) h known = tt
more_on_err P Q (Err e) h known = h e known

pub owned_all : (id : List ℕ) (os : AllTexts) (t : Maps) → IsOwned t → IsSome (t.heads id) → IsOwned (all_added id os t)
owned_all id [] t own has = own
owned_all id (o ∷ os) t own has = owned_all id os (added (id, o.0) o.1 t) (owned_added (id, o.0) o.1 t own has) has

pub short_taken : (id : List ℕ) (n : ℕ) (os : List ObjectText) → AreShort id (objects_view os) → AreShort id (objects_view (take n os))
short_taken id zero os short = tt
short_taken id (suc n) [] short = tt
short_taken id (suc n) (o ∷ os) short = (short.0, short_taken id n os short.1)

pub short_last : (id : List ℕ) (os : AllTexts) (o : List ℕ × ObjectTexts) → AreShort id (os ++ o ∷ []) → IsShortPart (id, o.0) o.1
short_last id [] o short = short.0
short_last id (x ∷ os) o short = short_last id os o short.1
