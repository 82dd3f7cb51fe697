-- A value without a first float holds none, and so does no JSON spelling.
use Rattle.std.proofs.Common.{◌≡◌, ℕ, suc, List, [], ◌∷◌, false, Option, Some, None, refl, sym}
use Rattle.std.proofs.lemmas.Option.{none-some}
use Rattle.serde_json.specs.Data.{unsigned, negative, float, Data, number, array, object, Items, no_items, item, Members, no_members, member}
use Rattle.serde_json.specs.Written.{has_float, items_have_float, members_have_float}
use Rattle.cdx_models.specs.declared.errors.Step.{Step}
use Rattle.cdx_schema.specs.Faults.{to_member, to_item}
use Rattle.cdx_schema.specs.JsonReading.{first_float, float_of_items, float_of_members, behind}
use Rattle.cdx_schema.specs.JsonSpelling.{jspell}
use Rattle.cdx_schema.specs.Laws.{SpellsNoFloat}
use Rattle.cdx_schema.proofs.NoFloats.{no_float, or_none}
use Rattle.cdx_schema.proofs.Basics.{neither}

not_behind : (s : Step) (o : Option (List Step)) → behind s o ≡ None → o ≡ None
not_behind s None h = refl
not_behind s (Some p) h = absurd (none-some (s ∷ p) (sym h))

mutual
  unfolding first_float

  clear : (d : Data) → first_float d ≡ None → has_float d ≡ false
  clear (number (unsigned n)) h = refl
  clear (number (negative z)) h = refl
  clear (number (float x)) h = absurd (none-some {A = List Step} [] (sym h))
  clear (array ds) h = items_clear ds 0 h
  clear (object ms) h = members_clear ms h
  clear _ h = refl

  items_clear : (ds : Items) (n : ℕ) → float_of_items n ds ≡ None → items_have_float ds ≡ false
  items_clear no_items n h = refl
  items_clear (item d ds) n h =
      let p = or_none (behind (to_item n) (first_float d)) (float_of_items (suc n) ds) h in
      neither (has_float d) (items_have_float ds) (clear d (not_behind (to_item n) (first_float d) p.0)) (items_clear ds (suc n) p.1)

  members_clear : (ms : Members) → float_of_members ms ≡ None → members_have_float ms ≡ false
  members_clear no_members h = refl
  members_clear (member l d ms) h =
      let p = or_none (behind (to_member l) (first_float d)) (float_of_members ms) h in
      neither (has_float d) (members_have_float ms) (clear d (not_behind (to_member l) (first_float d) p.0)) (members_clear ms p.1)

pub spelling_clear : SpellsNoFloat
spelling_clear t w k = clear (jspell t w k) (no_float t w k)
