-- A place is found exactly where a fault's condition holds.
use Rattle.std.proofs.Common.{◌≡◌, ℕ, suc, List, [], ◌∷◌, length, inl, inr, ◌⊎◌, Bool, true, false, not, ◌||◌, nat_lt, if◌then◌else◌, Option, Some, None, option_map, is_some, refl, ap, ◌∙◌}
use Rattle.std.specs.Option.{option_or}
use Rattle.fv_first.specs.First.{first_from, IsFirstFrom}
use Rattle.fv_first.proofs.Laws.{or_none, map_told, where_told, first_told}
use Rattle.fv_message.specs.Judged.{fits, has_long_text}
use Rattle.fv_message.specs.Judging.{is_misspelt, misspelt_at, misspelt_in}
use Rattle.fv_message.specs.Reading.{is_template, pieces}
use Rattle.fv_message.specs.Table.{Messages}
use Rattle.fv_message.specs.Template.{is_parameter_name}
use Rattle.fv_message.specs.Whereabouts.{first_long, large_in, IsMisspeltAt, IsMisspeltIn}
use Rattle.fv_message.specs.declared.fault.MessagesAt.{MessagesAt}
use Rattle.fv_message.specs.declared.fault.MessagesAt.TheVariants as at
use Rattle.fv_message.proofs.Becoming.{unread, template_spelled}

either_told : (a : Bool) (p : MessagesAt) (o : Option MessagesAt) → is_some (option_or (if a then Some p else None) (option_or o None)) ≡ (a || is_some o)
either_told true p o = refl
either_told false p o = or_none o

pub large_told : (user : Messages) → is_some (large_in user) ≡ (nat_lt 1024 (length user) || has_long_text user)
large_told user =
    either_told (nat_lt 1024 (length user)) at.Messages (option_map at.Text (first_long user))
    ∙ ap (λ (b : Bool). nat_lt 1024 (length user) || b) (map_told at.Text (first_long user) ∙ where_told (λ (m : List ℕ × List ℕ). not (fits m.1)) user)

-- ---- how messages are written

pub misspelt_told : (user : Messages) → is_some (misspelt_in user) ≡ is_misspelt user
misspelt_told user = first_told misspelt_at (λ m. not (is_template m.1) || not (is_parameter_name m.0)) (λ n m. each (is_parameter_name m.0) (is_template m.1) n) 0 user
  where
    each : (a b : Bool) (n : ℕ) → is_some (if not a then Some (at.Key n) else if not b then Some (at.Text n) else None) ≡ (not b || not a)
    each true true n = refl
    each true false n = refl
    each false true n = refl
    each false false n = refl

-- what is found first is found where what is found of each element is right
found_first : {X P : Type 0} (F : ℕ → X → Option P → Type 0) (f : ℕ → X → Option P) → ((n : ℕ) (x : X) → F n x (f n x)) → (n : ℕ) (xs : List X) → IsFirstFrom F n xs (first_from f n xs)
found_first F f each n [] = refl
found_first {X = X} {P = P} F f each n (x ∷ xs) = go (f n x) (each n x) (found_first F f each (suc n) xs)
  where
    go : (o : Option P) → F n x o → IsFirstFrom F (suc n) xs (first_from f (suc n) xs)
        → ((p : P) × (option_or o (first_from f (suc n) xs) ≡ Some p) × F n x (Some p)) ⊎ (F n x None × IsFirstFrom F (suc n) xs (option_or o (first_from f (suc n) xs)))
    go (Some p) h rest = inl (p, refl, h)
    go None h rest = inr (h, rest)

misspelt_each : (n : ℕ) (m : List ℕ × List ℕ) → IsMisspeltAt n m (misspelt_at n m)
misspelt_each n m = go (is_parameter_name m.0) (is_template m.1) refl refl
  where
    go : (a b : Bool) → is_parameter_name m.0 ≡ a → is_template m.1 ≡ b → IsMisspeltAt n m (if not a then Some (at.Key n) else if not b then Some (at.Text n) else None)
    go false b e f = inl (e, refl)
    go true false e f = inr (e, (refl, unread m.1 f))
    go true true e f = inr (e, (pieces m.1, template_spelled m.1 f))

pub misspelt_first : (user : Messages) → IsMisspeltIn user (misspelt_in user)
misspelt_first user = found_first IsMisspeltAt misspelt_at misspelt_each 0 user
