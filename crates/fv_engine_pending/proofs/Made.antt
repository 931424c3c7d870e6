-- Parts make of records what they make of the records on the way.
use Rattle.std.proofs.Common.{◌≡◌, ℕ, ◌+◌, List, [], ◌∷◌, map, Bool, true, false, cond, Option, Some, None, is_some, Result, Ok, Err, bytes_eq, refl, sym, ap, ◌∙◌}
use Rattle.std.specs.List.{AllByRecursion}
use Rattle.std.specs.Option.{option_map_or}
use Rattle.std.specs.Prelude.{unwrap_or}
use Rattle.std.specs.Result.{result_map_both}
use Rattle.std.proofs.Math.Path.{fun_ext}
use Rattle.std.proofs.lemmas.Slice.Eq.{bytes_eq-Decides}
use Rattle.serde_json.specs.Data as json
use Rattle.fv_datum.proofs.Maps.{at_insert}
use Rattle.fv_datum.specs.Lookup.{at_name}
use Rattle.fv_engine_command.specs.Commands.{Part, put, set, remove}
use Rattle.fv_model.specs.Setting.{bundle_set}
use Rattle.fv_bundle.specs.Bundles.{Bundled}
use Rattle.fv_model.specs.declared.fault.BundleFault.{BundleFault}
use Rattle.fv_engine_pending.specs.Fits.{Agrees, Covers}
use Rattle.fv_engine_pending.specs.Parts.{bundle_under, kept_as, part_made, parts_made, and_then}
use Rattle.fv_engine_pending.specs.Steps.{faulty, staged, left_as, set_on, removed_on, step_made, steps_made, numbered}
use Rattle.fv_engine_pending.specs.Touched.{leaves_record}
use Rattle.fv_engine_pending.specs.Ways.{Way, overlay, standing_at, IsOn, left_at, without_id}
use Rattle.fv_engine_pending.specs.declared.fault.PartFault.{PartFault}
use Rattle.fv_engine_pending.specs.declared.fault.PartFault.TheVariants.{UnknownForm, NoRecord}
use Rattle.fv_store.specs.Records.{Kept, Records, Roots, no_records, without_record}
use Rattle.fv_bundle.specs.Types.{Declared}

some_of : {X : Type 0} (o : Option X) → is_some o ≡ true → (x : X) × (o ≡ Some x)
some_of (Some x) e = (x, refl)
some_of None e = cc

-- ---- one id

-- at other ids the same stands
abbrev pub SameBut : List ℕ → Way → Way → Type 0
SameBut id v w = (q : List ℕ) → bytes_eq q id ≡ false → at_name q v ≡ at_name q w

pub at_without : (id : List ℕ) (w : Way) → SameBut id (without_id id w) w
at_without id [] q other = refl
at_without id (e ∷ es) q other = here (bytes_eq id e.0) refl (at_without id es q other)
  where
    here : (b : Bool) → bytes_eq id e.0 ≡ b → at_name q (without_id id es) ≡ at_name q es → at_name q (cond b es (e ∷ without_id id es)) ≡ at_name q (e ∷ es)
    here true is ih =
        let same : id ≡ e.0 = (bytes_eq-Decides id e.0).0 is in
        let apart : bytes_eq q e.0 ≡ false = ap (bytes_eq q) (sym same) ∙ other in
        sym (ap (λ b. cond b (Some e.1) (at_name q es)) apart)
    here false is ih = ap (cond (bytes_eq q e.0) (Some e.1)) ih

pub at_left : (id : List ℕ) (o : Option Kept) (v w : Way) → SameBut id v w → (q : List ℕ) → at_name q (left_at id o v) ≡ cond (bytes_eq q id) (Some o) (at_name q w)
at_left id o v w others q = at_insert v id o q ∙ pick (bytes_eq q id) refl
  where
    pick : (b : Bool) → bytes_eq q id ≡ b → cond b (Some o) (at_name q v) ≡ cond b (Some o) (at_name q w)
    pick true is = refl
    pick false is = others q is

chosen : (o : Option Kept) (b : Bool) (found : Option (Option Kept)) (was : Option Kept) → cond b o (unwrap_or found was) ≡ unwrap_or (cond b (Some o) found) was
chosen o true found was = refl
chosen o false found was = refl

over_left : (id : List ℕ) (o : Option Kept) (v w : Way) (m : Records) → SameBut id v w → (λ q. cond (bytes_eq q id) o (overlay w m q)) ≡ overlay (left_at id o v) m
over_left id o v w m others = fun_ext (λ q. chosen o (bytes_eq q id) (at_name q w) (m q) ∙ ap (λ found. unwrap_or found (m q)) (sym (at_left id o v w others q)))

-- ---- one part

-- the id of a part
abbrev pub id_of : Part → List ℕ
id_of (put id form j) = id
id_of (set id object field j) = id
id_of (remove id) = id

-- what stands at an id where it was left, a record or none, and at each other id
pub record Left (id : List ℕ) (some : Bool) (w new : Way) : Type 0 where
  pub left : Option Kept
  pub is : is_some left ≡ some
  pub at : (q : List ℕ) → at_name q new ≡ cond (bytes_eq q id) (Some left) (at_name q w)

put_back : (id : List ℕ) (o : Option Kept) (v w new : Way) → SameBut id v w → left_at id o v ≡ new → Left id (is_some o) w new
put_back id o v w new others e = record { left = o; is = refl; at = λ q. ap (at_name q) (sym e) ∙ at_left id o v w others q }

bundle_left : (id form : List ℕ) (v w new : Way) (r : Result Bundled PartFault) → SameBut id v w → left_as id form v r ≡ Ok new → Left id true w new
bundle_left id form v w new (Ok b) others e = put_back id (Some (record { form = form; bundle = b })) v w new others (cc)
bundle_left id form v w new (Err fault) others e = cc

set_left : (types : Declared) (id object field : List ℕ) (j : json.Data) (w new : Way) (o : Option Kept) → set_on types id object field j w o ≡ Ok new → Left id true w new
set_left types id object field j w new None e = cc
set_left types id object field j w new (Some k) e = bundle_left id k.form (without_id id w) w new (faulty (bundle_set types k.bundle object field j)) (at_without id w) e

remove_left : (id : List ℕ) (w new : Way) (o : Option Kept) → removed_on id w o ≡ Ok new → Left id false w new
remove_left id w new None e = cc
remove_left id w new (Some k) e = put_back id None (without_id id w) w new (at_without id w) (cc)

module _ (types : Declared) (forms : Roots) where
  pub part_left : (p : Part) (w new : Way) → step_made types (staged types forms p) w ≡ Ok new → Left (id_of p) (leaves_record p) w new
  part_left (put id form j) w new e = bundle_left id form w w new (cond (is_some (at_name form forms)) (faulty (bundle_under types forms form j)) (Err UnknownForm)) (λ q other. refl) e
  part_left (set id object field j) w new e = set_left types id object field j w new (standing_at id w) e
  part_left (remove id) w new e = remove_left id w new (standing_at id w) e

on_either : (o : Option Kept) (b : Bool) (found : Option (Option Kept)) → is_some found ≡ true → is_some (cond b (Some o) found) ≡ true
on_either o true found is = refl
on_either o false found is = is

-- what is on the way stays on it
pub stays_on : (id : List ℕ) (some : Bool) (w new : Way) → Left id some w new → (q : List ℕ) → IsOn q w → IsOn q new
stays_on id some w new l q on = ap is_some (l.at q) ∙ on_either l.left (bytes_eq q id) (at_name q w) on

pub is_on : (id : List ℕ) (some : Bool) (w new : Way) → Left id some w new → IsOn id new
is_on id some w new l = ap is_some (l.at id ∙ ap (λ b. cond b (Some l.left) (at_name id w)) ((bytes_eq-Decides id id).1 refl))

module _ (types : Declared) (forms : Roots) (m : Records) where
  -- what is made of the way, over the records
  abbrev seen : {E : Type 0} → Result Way E → Result Records E
  seen = result_map_both (λ w. overlay w m) (λ e. e)

  kept_seen : (id form : List ℕ) (v w : Way) → SameBut id v w → (r : Result Bundled BundleFault) → kept_as id form (overlay w m) r ≡ seen (left_as id form v (faulty r))
  kept_seen id form v w others (Ok b) = ap (λ (x : Records). Ok x) (over_left id (Some (record { form = form; bundle = b })) v w m others)
  kept_seen id form v w others (Err fault) = refl

  put_seen : (id form : List ℕ) (w : Way) (declared : Bool) (r : Result Bundled BundleFault)
      → cond declared (kept_as id form (overlay w m) r) (Err UnknownForm) ≡ seen (left_as id form w (cond declared (faulty r) (Err UnknownForm)))
  put_seen id form w true r = kept_seen id form w w (λ q other. refl) r
  put_seen id form w false r = refl

  -- what a set and a remove make of records, by the record that stands at their id
  abbrev set_in : List ℕ → List ℕ → List ℕ → json.Data → Records → Option Kept → Result Records PartFault
  set_in id object field j ms o = option_map_or (λ k. kept_as id k.form ms (bundle_set types k.bundle object field j)) o (Err NoRecord)

  abbrev removed_from : List ℕ → Records → Option Kept → Result Records PartFault
  removed_from id ms o = option_map_or (λ k. Ok (without_record id ms)) o (Err NoRecord)

  set_seen : (id object field : List ℕ) (j : json.Data) (w : Way) (o : Option Kept) → set_in id object field j (overlay w m) o ≡ seen (set_on types id object field j w o)
  set_seen id object field j w None = refl
  set_seen id object field j w (Some k) = kept_seen id k.form (without_id id w) w (at_without id w) (bundle_set types k.bundle object field j)

  remove_seen : (id : List ℕ) (w : Way) (o : Option Kept) → removed_from id (overlay w m) o ≡ seen (removed_on id w o)
  remove_seen id w None = refl
  remove_seen id w (Some k) = ap (λ (x : Records). Ok x) (over_left id None (without_id id w) w m (at_without id w))

  -- a record that is on the way is the one that stands
  over_on : (id : List ℕ) (w : Way) → IsOn id w → overlay w m id ≡ standing_at id w
  over_on id w on =
      let found = some_of (at_name id w) on in
      ap (λ o. unwrap_or o (m id)) found.1 ∙ sym (ap (λ o. unwrap_or o None) found.1)

  part_seen : (p : Part) (w : Way) → Covers w p → part_made types forms p (overlay w m) ≡ seen (step_made types (staged types forms p) w)
  part_seen (put id form j) w covers = put_seen id form w (is_some (at_name form forms)) (bundle_under types forms form j)
  part_seen (set id object field j) w covers = ap (set_in id object field j (overlay w m)) (over_on id w (covers id refl)) ∙ set_seen id object field j w (standing_at id w)
  part_seen (remove id) w covers = ap (removed_from id (overlay w m)) (over_on id w (covers id refl)) ∙ remove_seen id w (standing_at id w)

  covers_more : (w new : Way) → ((q : List ℕ) → IsOn q w → IsOn q new) → (ps : List Part) → AllByRecursion (Covers w) ps → AllByRecursion (Covers new) ps
  covers_more w new more [] all = tt
  covers_more w new more (p ∷ ps) all = (λ id is. more id (all.0 id is), covers_more w new more ps all.1)

  next_seen : (n : ℕ) (p : Part) (ps : List Part) (w : Way) (r : Result Way PartFault) → step_made types (staged types forms p) w ≡ r
      → ((new : Way) → AllByRecursion (Covers new) ps → parts_made types forms (n + 1) ps (overlay new m) ≡ seen (steps_made types (n + 1) (map (staged types forms) ps) new)) → AllByRecursion (Covers w) ps
      → and_then (parts_made types forms (n + 1) ps) (numbered n (seen r)) ≡ seen (and_then (steps_made types (n + 1) (map (staged types forms) ps)) (numbered n r))
  next_seen n p ps w (Ok new) is ih covers = ih new (covers_more w new (stays_on (id_of p) (leaves_record p) w new (part_left types forms p w new is)) ps covers)
  next_seen n p ps w (Err fault) is ih covers = refl

  parts_seen : (n : ℕ) (parts : List Part) (w : Way) → AllByRecursion (Covers w) parts → parts_made types forms n parts (overlay w m) ≡ seen (steps_made types n (map (staged types forms) parts) w)
  parts_seen n [] w covers = refl
  parts_seen n (p ∷ ps) w covers =
      ap (λ r. and_then (parts_made types forms (n + 1) ps) (numbered n r)) (part_seen p w covers.0)
      ∙ next_seen n p ps w (step_made types (staged types forms p) w) refl (parts_seen (n + 1) ps) covers.1

-- ---- all parts

agreed : (o : Option (Option Kept)) (was : Option Kept) → ((x : Option Kept) → o ≡ Some x → was ≡ x) → unwrap_or o was ≡ was
agreed None was same = refl
agreed (Some x) was same = sym (same x refl)

over_agreeing : (way : Way) (m : Records) → Agrees way m → overlay way m ≡ m
over_agreeing way m agrees = fun_ext (λ id. agreed (at_name id way) (m id) (agrees id))

module _ (types : Declared) (forms : Roots) (n : ℕ) (parts : List Part) (way : Way) where
  -- what is on the way at the end are the records that parts have made
  pub made : (new : Way) (m : Records) → Agrees way m → AllByRecursion (Covers way) parts → steps_made types n (map (staged types forms) parts) way ≡ Ok new → parts_made types forms n parts m ≡ Ok (overlay new m)
  made new m agrees covers e =
      ap (parts_made types forms n parts) (sym (over_agreeing way m agrees)) ∙ parts_seen types forms m n parts way covers ∙ ap (result_map_both (λ w. overlay w m) (λ f. f)) e

  -- the part that can't be done is the one that can't be done on the way
  pub unmade : (e : ℕ × PartFault) (m : Records) → Agrees way m → AllByRecursion (Covers way) parts → steps_made types n (map (staged types forms) parts) way ≡ Err e → parts_made types forms n parts m ≡ Err e
  unmade e m agrees covers is =
      ap (parts_made types forms n parts) (sym (over_agreeing way m agrees)) ∙ parts_seen types forms m n parts way covers ∙ ap (result_map_both (λ w. overlay w m) (λ f. f)) is

-- ---- where there are no records

module _ (types : Declared) (forms : Roots) where
  -- there what stands on the way are the records, also at an id that isn't on it
  bare_part : (p : Part) (w : Way) → part_made types forms p (overlay w no_records) ≡ seen types forms no_records (step_made types (staged types forms p) w)
  bare_part (put id form j) w = put_seen types forms no_records id form w (is_some (at_name form forms)) (bundle_under types forms form j)
  bare_part (set id object field j) w = set_seen types forms no_records id object field j w (standing_at id w)
  bare_part (remove id) w = remove_seen types forms no_records id w (standing_at id w)

  bare_next : (n : ℕ) (ps : List Part) (r : Result Way PartFault)
      → ((new : Way) → parts_made types forms (n + 1) ps (overlay new no_records) ≡ seen types forms no_records (steps_made types (n + 1) (map (staged types forms) ps) new))
      → and_then (parts_made types forms (n + 1) ps) (numbered n (seen types forms no_records r)) ≡ seen types forms no_records (and_then (steps_made types (n + 1) (map (staged types forms) ps)) (numbered n r))
  bare_next n ps (Ok new) ih = ih new
  bare_next n ps (Err fault) ih = refl

  bare_parts : (n : ℕ) (parts : List Part) (w : Way) → parts_made types forms n parts (overlay w no_records) ≡ seen types forms no_records (steps_made types n (map (staged types forms) parts) w)
  bare_parts n [] w = refl
  bare_parts n (p ∷ ps) w =
      ap (λ r. and_then (parts_made types forms (n + 1) ps) (numbered n r)) (bare_part p w) ∙ bare_next n ps (step_made types (staged types forms p) w) (bare_parts (n + 1) ps)

  -- what parts make of no records is what they make of nothing on the way
  pub bare_made : (n : ℕ) (parts : List Part) → parts_made types forms n parts no_records ≡ result_map_both (λ w. overlay w no_records) (λ e. e) (steps_made types n (map (staged types forms) parts) [])
  bare_made n parts = bare_parts n parts []
