-- The only member of an object.
use Rattle.std.proofs.Common.{◌≡◌, ℕ, Bool, true, false, Ordering, Less, Equal, Greater, ◌<◌, List, [], ◌∷◌, length, Option, Some, None, option_map, refl, sym, ap, ◌∙◌, arith, Bor, String, Global}
use Rattle.std.specs.Prelude.{IsSome, IfSome, slice_get, string_bytes, ◌↔◌, codes, if◌then◌else◌}
use Rattle.std.specs.Cmp.Lexicographic.{slice_cmp}
use Rattle.std.specs.Ordering.{match_ordering, nat_cmp}
use Rattle.std.proofs.lemmas.Option.{same_Some}
use Rattle.serde_json.specs.Data.{Data, null, boolean, number, string, array, object, Members, member, no_members}
use Rattle.serde_json.specs.Find.{as_object, as_str, get_member}
use Rattle.serde_json.specs.View.{view, members_view}
use Rattle.serde_json.specs.declared.value.Value.{Value}
use Rattle.serde_json.proofs.Views.{get_member-put_other}
use Rattle.cdx_events.specs.declared.event.XmlEvent.TheVariants.{EndElement, Characters, CData}
use Rattle.cdx_request.specs.Parts.{◌>>=◌, text_at}
use Rattle.cdx_request.specs.EventReading.{event_of, mark_event, name_at, start_parts, start_event, end_event, text_event}
use Rattle.cdx_tool.specs.LoneMember.{lone_member}

-- an object is its members
is_object : (ms : Members) (d : Data) → Some ms ≡ as_object d → d ≡ object ms
is_object ms null h = cc
is_object ms (boolean b) h = cc
is_object ms (number n) h = cc
is_object ms (string s) h = cc
is_object ms (array ds) h = cc
is_object ms (object os) h = ap (λ x. object x) (same_Some os ms (sym h))

module _ (d : Data) where
  pub not_one : (es : List (String Global × Value)) → Some (members_view es) ≡ as_object d → (length es ≡ 1 → ⊥) → None ≡ lone_member d
  not_one [] h n = sym (ap lone_member (is_object (members_view []) d h))
  not_one (e ∷ []) h n = absurd (n refl)
  not_one (e ∷ f ∷ es) h n = sym (ap lone_member (is_object (members_view (e ∷ f ∷ es)) d h))

  pub the_lone : (es : List (String Global × Value)) → Some (members_view es) ≡ as_object d → length es ≡ 1 → (r : Option (Bor (String Global) × Bor Value)) → (IsSome r ↔ (0 < length es)) → IfSome r (λ p. slice_get es 0 ≡ Some (p.0.now, p.1.now))
      → option_map (λ p. (string_bytes p.0.now, view p.1.now)) r ≡ lone_member d
  the_lone [] h n r some first = absurd cc
  the_lone (e ∷ f ∷ es) h n r some first = absurd cc
  the_lone (e ∷ []) h n None some first = let wrong : IsSome {T = Bor (String Global) × Bor Value} None = some.1 (omega arith) in cc
  the_lone (e ∷ []) h n (Some p) some first =
      ap (λ x. Some (string_bytes x.0, view x.1)) (sym (same_Some e (p.0.now, p.1.now) first)) ∙ sym (ap lone_member (is_object (members_view (e ∷ [])) d h))

-- ---- the event of an object of one member

pub is_lone : (d : Data) (k : List ℕ) (x : Data) → Some (k, x) ≡ lone_member d → d ≡ object (member k x no_members)
is_lone null k x h = cc
is_lone (boolean b) k x h = cc
is_lone (number n) k x h = cc
is_lone (string s) k x h = cc
is_lone (array ds) k x h = cc
is_lone (object no_members) k x h = cc
is_lone (object (member l y (member m z ms))) k x h = cc
is_lone (object (member l y no_members)) k x h = ap (λ m. object (member m.0 m.1 no_members)) (same_Some (l, y) (k, x) (sym h))

pub is_text : (d : Data) (s : List ℕ) → Some s ≡ as_str d → d ≡ string s
is_text null s h = cc
is_text (boolean b) s h = cc
is_text (number n) s h = cc
is_text (string t) s h = ap (λ x. string x) (same_Some t s (sym h))
is_text (array ds) s h = cc
is_text (object os) s h = cc

-- a name that tells of no event
pub no_event : (k : List ℕ) (d : Data) → (k ≡ codes "document" → ⊥) → (k ≡ codes "element" → ⊥) → (k ≡ codes "end" → ⊥) → (k ≡ codes "text" → ⊥) → (k ≡ codes "cdata" → ⊥) → None ≡ event_of (object (member k d no_members))
no_event k d document element end text cdata =
    let away : (name : List ℕ) → (k ≡ name → ⊥) → get_member name (member k d no_members) ≡ None = λ name other. get_member-put_other name k d no_members (λ e. other (sym e)) in
    rw (away (codes "document") document, away (codes "element") element, away (codes "end") end, away (codes "text") text, away (codes "cdata") cdata) refl

either_none : {A : Type 0} (b : Bool) (x y : Option A) → x ≡ None → y ≡ None → (if b then x else y) ≡ None
either_none true x y h k = h
either_none false x y h k = k

module _ (k : List ℕ) (d : Data) (none : None ≡ as_str d) where
  abbrev lone : Data
  lone = object (member k d no_members)

  no_text_at : (name : List ℕ) → text_at name lone ≡ None
  no_text_at name = go (slice_cmp nat_cmp name k)
    where
      go : (o : Ordering) → (match_ordering o None (Some d) None >>= as_str) ≡ None
      go Less = refl
      go Equal = sym none
      go Greater = refl

  -- what is no text is no event
  pub no_text : None ≡ event_of lone
  no_text = sym
      (either_none _ (mark_event lone) _ (rw (no_text_at (codes "document")) refl)
      (either_none _ (start_event lone) _ (either_none _ (start_parts lone) None (rw (no_text_at (codes "element")) refl) refl)
      (either_none _ (end_event lone) _ (either_none _ (option_map (λ name. EndElement name) (name_at (codes "end") lone)) None (rw (no_text_at (codes "end")) refl) refl)
      (either_none _ (text_event (codes "text") (λ s. Characters s) lone) _ (rw (no_text_at (codes "text")) refl)
      (either_none _ (text_event (codes "cdata") (λ s. CData s) lone) _ (rw (no_text_at (codes "cdata")) refl) refl)))))
