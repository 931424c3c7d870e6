-- Commands: a value has no misfit exactly where it is read, its bundles included.
use Rattle.std.proofs.Common.{◌≡◌, ℕ, List, [], ◌∷◌, length, Bool, true, false, ◌&&◌, ◌||◌, cond, if◌then◌else◌, nat_le, Option, Some, None, option_map, option_and_then, is_some, unwrap_or, bytes_eq, codes, refl, sym, ap, ◌∙◌}
use Rattle.std.proofs.lemmas.Slice.Eq.{bytes_eq-Decides}
use Rattle.std.specs.List.{list_all}
use Rattle.std.specs.Option.{option_map_or}
use Rattle.serde_json.specs.Data as json
use Rattle.serde_json.specs.Find.{get, get_member, as_str}
use Rattle.fv_datum.specs.Forms.{map2, map3, map4, required, maybe, optional}
use Rattle.fv_datum.specs.Json.{passing}
use Rattle.fv_datum.specs.Lookup.{at_name}
use Rattle.fv_datum.specs.Members.{has_only}
use Rattle.fv_datum.specs.NameLists.{names_in}
use Rattle.fv_engine_command.specs.Commands as command
use Rattle.fv_form.specs.Asked.{asked}
use Rattle.fv_form.specs.Commands.{named, of_put, of_set, of_id, of_batch, of_check, of_check_field, of_check_value, of_list, of_redeclare, of_unnamed, record_commands, commands, is_command_name, is_drafted, is_shaped, is_command}
use Rattle.fv_form.specs.Entries.{must, may}
use Rattle.fv_form.specs.Misfits.{Entry, in_entry}
use Rattle.fv_form.specs.declared.form_name.FormName.{FormName}
use Rattle.fv_form.specs.declared.form_name.FormName.TheVariants as part
use Rattle.fv_form.proofs.Bundled.{any_kept}
use Rattle.fv_form.proofs.Naming.{id_kept, limit_kept, command_name_kept, counted_told, asks, name_in, asks_where, name_told, name_kept, unnamed_out, Row, rows_told}
use Rattle.fv_form.proofs.Parted.{put_right, set_right, remove_right, id_right, parts_kept}
use Rattle.fv_form.proofs.Passed.{or_false, nothing, any_read, passed_where, passed_at, passed1, passed2, passed3, passed4}
use Rattle.fv_form.proofs.Told.{none_in, only_read, none2, none3, none4, none5, must_told, may_told, maybe_told}
use Rattle.fv_form.proofs.Written.{is_kept, entry_at, text_kept}

-- ---- groups that are asked for

abbrev few : List (List ℕ) → Bool
few names = nat_le (length names) 32

groups_kept : (j : json.Data) → is_kept part.AskedGroups j ≡ is_some (option_and_then (passing few) (names_in j))
groups_kept = counted_told (λ n. nat_le n 32) part.AskedGroups part.Text as_str text_kept (λ k. refl)

few_at : (o : Option json.Data) → is_some (option_map_or (λ k. option_and_then (passing few) (names_in k)) o (Some [])) ≡ is_some (option_and_then (passing few) (option_map_or names_in o (Some [])))
few_at None = refl
few_at (Some k) = refl

groups_told : (ms : json.Members) → none_in (in_entry asked part.Command (may (codes "groups") part.AskedGroups) ms) ≡ is_some (command.groups_at (json.object ms))
groups_told ms = may_told asked part.Command (codes "groups") part.AskedGroups [] (λ k. option_and_then (passing few) (names_in k)) groups_kept ms ∙ few_at (get_member (codes "groups") ms)

-- ---- each by its entries

module _ (ms : json.Members) (known : none_in (in_entry asked part.Command named ms) ≡ true) where
  abbrev j : json.Data
  j = json.object ms

  abbrev right : Option command.Request → Bool
  right o = option_map_or is_shaped o false

  alone_right : (o : Option command.Part) → right (option_map command.alone o) ≡ option_map_or is_drafted o false
  alone_right None = refl
  alone_right (Some p) = refl

  batch_drafted : (o : Option (List command.Part)) → right (option_map command.batch o) ≡ option_map_or (list_all is_drafted) o false
  batch_drafted None = refl
  batch_drafted (Some ps) = refl

  batch_right : asks part.Command ms of_batch ≡ right (command.batch_of j)
  batch_right =
      let parts : Option (List command.Part) = required command.parts_in (codes "parts") j in
      let only : Bool = has_only (codes "do" ∷ codes "parts" ∷ []) j in
      let drafted : Bool = option_map_or (list_all is_drafted) parts false in
      asks_where part.Command of_batch ms drafted (
      none2 (entry_at part.Command ms named) (entry_at part.Command ms (must (codes "parts") part.Parts)) true drafted known
      (must_told asked part.Command (codes "parts") part.Parts (λ k. option_and_then (passing (list_all is_drafted)) (command.parts_in k)) parts_kept ms
      ∙ passed_at (list_all is_drafted) command.parts_in (get_member (codes "parts") ms)))
      ∙ ap (λ b. only && b) (sym (batch_drafted parts)) ∙ sym (passed_where is_shaped only (option_map command.batch parts))

  get_right : asks part.Command ms of_id ≡ right (command.get_of j)
  get_right =
      let id : Option (List ℕ) = command.id_at j in
      let only : Bool = has_only (codes "do" ∷ codes "id" ∷ []) j in
      id_right part.Command ms known ∙ ap (λ b. only && b) (sym (passed1 is_shaped command.get (λ a. refl) id))
      ∙ sym (passed_where is_shaped only (option_map command.get id))

  check_right : asks part.Command ms of_check ≡ right (command.check_of j)
  check_right =
      let id : Option (List ℕ) = command.id_at j in
      let groups : Option (List (List ℕ)) = command.groups_at j in
      let only : Bool = has_only (codes "do" ∷ codes "id" ∷ codes "groups" ∷ []) j in
      asks_where part.Command of_check ms (is_some id && is_some groups) (
      none3 (entry_at part.Command ms named) (entry_at part.Command ms (must (codes "id") part.Id)) (entry_at part.Command ms (may (codes "groups") part.AskedGroups))
      true (is_some id) (is_some groups) known
      (must_told asked part.Command (codes "id") part.Id command.id_in id_kept ms)
      (groups_told ms))
      ∙ ap (λ b. only && b) (sym (passed2 is_shaped command.check (λ a b. refl) id groups)) ∙ sym (passed_where is_shaped only (map2 command.check id groups))

  check_field_right : asks part.Command ms of_check_field ≡ right (command.check_field_of j)
  check_field_right =
      let id : Option (List ℕ) = command.id_at j in
      let object : Option (List ℕ) = required as_str (codes "object") j in
      let field : Option (List ℕ) = required as_str (codes "field") j in
      let groups : Option (List (List ℕ)) = command.groups_at j in
      let only : Bool = has_only (codes "do" ∷ codes "id" ∷ codes "object" ∷ codes "field" ∷ codes "groups" ∷ []) j in
      asks_where part.Command of_check_field ms (is_some id && (is_some object && (is_some field && is_some groups))) (
      none5 (entry_at part.Command ms named) (entry_at part.Command ms (must (codes "id") part.Id)) (entry_at part.Command ms (must (codes "object") part.Text)) (entry_at part.Command ms (must (codes "field") part.Text))
      (entry_at part.Command ms (may (codes "groups") part.AskedGroups))
      true (is_some id) (is_some object) (is_some field) (is_some groups) known
      (must_told asked part.Command (codes "id") part.Id command.id_in id_kept ms)
      (must_told asked part.Command (codes "object") part.Text as_str text_kept ms)
      (must_told asked part.Command (codes "field") part.Text as_str text_kept ms)
      (groups_told ms))
      ∙ ap (λ b. only && b) (sym (passed4 is_shaped command.check_field (λ a b c d. refl) id object field groups))
      ∙ sym (passed_where is_shaped only (map4 command.check_field id object field groups))

  check_value_right : asks part.Command ms of_check_value ≡ right (command.check_value_of j)
  check_value_right =
      let type : Option (List ℕ) = required as_str (codes "type") j in
      let field : Option (List ℕ) = required as_str (codes "field") j in
      let value : Option json.Data = get (codes "value") j in
      let groups : Option (List (List ℕ)) = command.groups_at j in
      let only : Bool = has_only (codes "do" ∷ codes "type" ∷ codes "field" ∷ codes "value" ∷ codes "groups" ∷ []) j in
      asks_where part.Command of_check_value ms (is_some type && (is_some field && (is_some value && is_some groups))) (
      none5 (entry_at part.Command ms named) (entry_at part.Command ms (must (codes "type") part.Text)) (entry_at part.Command ms (must (codes "field") part.Text)) (entry_at part.Command ms (must (codes "value") part.Any))
      (entry_at part.Command ms (may (codes "groups") part.AskedGroups))
      true (is_some type) (is_some field) (is_some value) (is_some groups) known
      (must_told asked part.Command (codes "type") part.Text as_str text_kept ms)
      (must_told asked part.Command (codes "field") part.Text as_str text_kept ms)
      (must_told asked part.Command (codes "value") part.Any (λ k. Some k) any_kept ms ∙ any_read value)
      (groups_told ms))
      ∙ ap (λ b. only && b) (sym (passed4 is_shaped command.check_value (λ a b c d. refl) type field value groups))
      ∙ sym (passed_where is_shaped only (map4 command.check_value type field value groups))

  list_right : asks part.Command ms of_list ≡ right (command.list_request j)
  list_right =
      let form : Option (List ℕ) = required as_str (codes "form") j in
      let after : Option (Option (List ℕ)) = maybe command.id_in (codes "after") j in
      let limit : Option ℕ = optional 100 command.limit_in (codes "limit") j in
      let only : Bool = has_only (codes "do" ∷ codes "form" ∷ codes "after" ∷ codes "limit" ∷ []) j in
      asks_where part.Command of_list ms (is_some form && (is_some after && is_some limit)) (
      none4 (entry_at part.Command ms named) (entry_at part.Command ms (must (codes "form") part.Text)) (entry_at part.Command ms (may (codes "after") part.Id)) (entry_at part.Command ms (may (codes "limit") part.Limit))
      true (is_some form) (is_some after) (is_some limit) known
      (must_told asked part.Command (codes "form") part.Text as_str text_kept ms)
      (maybe_told asked part.Command (codes "after") part.Id command.id_in id_kept ms)
      (may_told asked part.Command (codes "limit") part.Limit 100 command.limit_in limit_kept ms))
      ∙ ap (λ b. only && b) (sym (passed3 is_shaped command.list (λ a b c. refl) form after limit)) ∙ sym (passed_where is_shaped only (map3 command.list form after limit))

  redeclare_right : asks part.Command ms of_redeclare ≡ is_some (if has_only (codes "do" ∷ codes "text" ∷ []) j then required as_str (codes "text") j else None)
  redeclare_right =
      let text : Option (List ℕ) = required as_str (codes "text") j in
      let only : Bool = has_only (codes "do" ∷ codes "text" ∷ []) j in
      asks_where part.Command of_redeclare ms (is_some text) (
      none2 (entry_at part.Command ms named) (entry_at part.Command ms (must (codes "text") part.Text)) true (is_some text) known
      (must_told asked part.Command (codes "text") part.Text as_str text_kept ms))
      ∙ sym (only_read only text)

  put_alone : asks part.Command ms of_put ≡ right (option_map command.alone (command.put_of j))
  put_alone = put_right part.Command ms known ∙ sym (alone_right (command.put_of j))

  set_alone : asks part.Command ms of_set ≡ right (option_map command.alone (command.set_of j))
  set_alone = set_right part.Command ms known ∙ sym (alone_right (command.set_of j))

  remove_alone : asks part.Command ms of_id ≡ right (option_map command.alone (command.remove_of j))
  remove_alone = remove_right part.Command ms known ∙ sym (alone_right (command.remove_of j))

-- ---- a command by its name

abbrev rows : List (Row command.Request)
rows =
    (codes "put", (of_put, λ j. option_map command.alone (command.put_of j))) ∷ (codes "set", (of_set, λ j. option_map command.alone (command.set_of j)))
    ∷ (codes "remove", (of_id, λ j. option_map command.alone (command.remove_of j))) ∷ (codes "batch", (of_batch, command.batch_of)) ∷ (codes "get", (of_id, command.get_of))
    ∷ (codes "check", (of_check, command.check_of)) ∷ (codes "checkfield", (of_check_field, command.check_field_of)) ∷ (codes "checkvalue", (of_check_value, command.check_value_of))
    ∷ (codes "list", (of_list, command.list_request)) ∷ []

module _ (ms : json.Members) where
  abbrev others : List (Entry FormName)
  others = of_unnamed part.CommandName

  -- the command of a name, and its bundles
  abbrev of_records : List ℕ → Bool
  of_records name = option_map_or is_shaped (option_and_then (λ form. form (json.object ms)) (at_name name command.forms)) false

  -- the text of a redeclare, by whether the name is one's
  abbrev text_where : Bool → Option (List ℕ)
  text_where b = if b then required as_str (codes "text") (json.object ms) else None

  abbrev only_text : Option (List ℕ) → Option (List ℕ)
  only_text o = if has_only (codes "do" ∷ codes "text" ∷ []) (json.object ms) then o else None

  records_told : (name : List ℕ) → name_in ms ≡ Some name → bytes_eq name (codes "redeclare") ≡ false → asks part.Command ms (unwrap_or (at_name name record_commands) others) ≡ of_records name
  records_told name is other =
      let kept = λ (word : List ℕ) (same : name ≡ word) (yes : is_command_name word ≡ true). name_kept part.Command ms name word is same yes in
      rows_told is_shaped part.Command others ms name rows (
        λ same. put_alone ms (kept (codes "put") same refl),
        (
          λ same. set_alone ms (kept (codes "set") same refl),
          (
            λ same. remove_alone ms (kept (codes "remove") same refl),
            (
              λ same. batch_right ms (kept (codes "batch") same refl),
              (
                λ same. get_right ms (kept (codes "get") same refl),
                (
                  λ same. check_right ms (kept (codes "check") same refl),
                  (
                    λ same. check_field_right ms (kept (codes "checkfield") same refl),
                    (
                      λ same. check_value_right ms (kept (codes "checkvalue") same refl),
                      (λ same. list_right ms (kept (codes "list") same refl), tt),
                    ),
                  ),
                ),
              ),
            ),
          ),
        ),
      )
      (λ none. unnamed_out part.Command part.CommandName ms (
      name_told part.Command part.CommandName is_command_name command_name_kept ms (Some name) is
      ∙ ap (λ b. is_some (cond b (Some of_redeclare) (at_name name record_commands))) other ∙ none))

  -- a redeclare asks for no records
  no_records : (name : List ℕ) → name ≡ codes "redeclare" → of_records name ≡ false
  no_records name same = rw same refl

  by_name : (name : List ℕ) (b : Bool) → bytes_eq name (codes "redeclare") ≡ b → name_in ms ≡ Some name
      → asks part.Command ms (unwrap_or (cond b (Some of_redeclare) (at_name name record_commands)) others) ≡ (of_records name || is_some (only_text (text_where b)))
  by_name name true is named =
      let same : name ≡ codes "redeclare" = (bytes_eq-Decides name (codes "redeclare")).0 is in
      redeclare_right ms (name_kept part.Command ms name (codes "redeclare") named same refl) ∙ ap (λ b. b || is_some (only_text (text_where true))) (sym (no_records name same))
  by_name name false is named =
      records_told name named is ∙ sym (or_false (of_records name))
      ∙ ap (λ b. of_records name || b) (sym (nothing (List ℕ) (has_only (codes "do" ∷ codes "text" ∷ []) (json.object ms)) None refl))

  command_told : (o : Option (List ℕ)) → name_in ms ≡ o
      → asks part.Command ms (unwrap_or (option_and_then (λ name. at_name name commands) o) others)
      ≡ (option_map_or is_shaped (option_and_then (λ name. option_and_then (λ form. form (json.object ms)) (at_name name command.forms)) o) false
      || is_some (only_text (option_and_then (λ name. text_where (bytes_eq name (codes "redeclare"))) o)))
  command_told None is =
      unnamed_out part.Command part.CommandName ms (name_told part.Command part.CommandName is_command_name command_name_kept ms None is)
      ∙ sym (nothing (List ℕ) (has_only (codes "do" ∷ codes "text" ∷ []) (json.object ms)) None refl)
  command_told (Some name) is = by_name name (bytes_eq name (codes "redeclare")) refl is

shaped_at : (o : Option command.Request) → option_map_or is_shaped o false ≡ is_shaped (unwrap_or o command.shape)
shaped_at None = refl
shaped_at (Some r) = refl

pub command_kept : (j : json.Data) → is_kept part.Command j ≡ is_command j
command_kept json.null = refl
command_kept (json.boolean b) = refl
command_kept (json.number n) = refl
command_kept (json.string s) = refl
command_kept (json.array js) = refl
command_kept (json.object ms) = command_told ms (name_in ms) refl ∙ ap (λ b. b || is_some (command.redeclare_of (json.object ms))) (shaped_at (command.command_of (json.object ms)))
