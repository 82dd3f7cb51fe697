-- What is printed piece by piece is the value's text.
use Rattle.std.proofs.Common.{◌≡◌, ◌∙◌, ℕ, List, [], ◌∷◌, ◌++◌, codes, Bool, true, false, refl, sym, ap, append_assoc}
use Rattle.serde_json.specs.Data.{Data, string, object, Members, member}
use Rattle.serde_json.specs.Written.{comma_if, compact_text, members_text}
use Rattle.cdx_print.specs.Prints.{key_text}

-- ---- an object, member by member

-- what was printed of an object, with a member more
pub member_printed : (before start : List ℕ) (later : Bool) (k : List ℕ) (d : Data) (ms : Members) → start ≡ key_text later k → ((before ++ start) ++ compact_text d) ++ members_text true ms ≡ before ++ members_text later (member k d ms)
member_printed before start later k d ms is =
    let rest = compact_text d ++ members_text true ms in
    append_assoc (before ++ start) (compact_text d) (members_text true ms)
    ∙ append_assoc before start rest
    ∙ ap (λ s. before ++ (s ++ rest)) is
    ∙ ap (λ s. before ++ s) (append_assoc (comma_if later) (compact_text (string k) ++ 58 ∷ []) rest)
    ∙ ap (λ s. before ++ (comma_if later ++ s)) (append_assoc (compact_text (string k)) (58 ∷ []) rest)

-- an object that is begun with its first member
pub first_printed : (before start k : List ℕ) (d : Data) (ms : Members) → start ≡ 123 ∷ key_text false k → ((before ++ start) ++ compact_text d) ++ members_text true ms ≡ before ++ compact_text (object (member k d ms))
first_printed before start k d ms is =
    ap (λ s. ((before ++ s) ++ compact_text d) ++ members_text true ms) is
    ∙ ap (λ s. (s ++ compact_text d) ++ members_text true ms) (sym (append_assoc before (123 ∷ []) (key_text false k)))
    ∙ member_printed (before ++ 123 ∷ []) (key_text false k) false k d ms refl
    ∙ append_assoc before (123 ∷ []) (members_text false (member k d ms))

-- a member that another follows, with its comma
pub led_printed : (before start k : List ℕ) (d : Data) (l : List ℕ) (e : Data) (ms : Members) → start ≡ key_text false k
    → (((before ++ start) ++ compact_text d) ++ codes ",") ++ members_text false (member l e ms) ≡ before ++ members_text false (member k d (member l e ms))
led_printed before start k d l e ms is =
    append_assoc ((before ++ start) ++ compact_text d) (44 ∷ []) (members_text false (member l e ms)) ∙ member_printed before start false k d (member l e ms) is
