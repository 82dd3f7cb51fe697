-- Spellings one after the other.
use Rattle.std.proofs.Common.{◌≡◌, ℕ, ◌+◌, ◌<◌, ◌≤◌, List, [], ◌∷◌, ◌++◌, Result, Ok, Err, length, take, drop, get_or, sym, ap, subst, ◌∙◌, append_assoc}
use Rattle.std.specs.List.{flat_map}
use Rattle.std.proofs.lemmas.List.{take-append-drop, drop_more, append-nil, take_all, take_more}
use Rattle.std.proofs.lemmas.List.Concat.{flat_map-append}
use Rattle.cdx_events.specs.declared.event.XmlEvent.{XmlEvent}
use Rattle.cdx_models.specs.declared.errors.XmlWriteError.{XmlWriteError}
use Rattle.cdx_models.specs.declared.errors.XmlWriteError.TheVariants.{XmlElementWriteError, BomError, Memory}
use Rattle.cdx_write.specs.Writing.{Partly, Appends}

-- ---- two spellings, one after the other

pub partly_first : (old new a b : List XmlEvent) → Partly old new a → Partly old new (a ++ b)
partly_first old new a b p = record { part = p.part; rest = p.rest ++ b; new_is = p.new_is; spelling_is = ap (λ x. x ++ b) p.spelling_is ∙ append_assoc p.part p.rest b }

pub partly_after : (old mid new a b : List XmlEvent) → mid ≡ old ++ a → Partly mid new b → Partly old new (a ++ b)
partly_after old mid new a b is p =
    record { part = a ++ p.part; rest = p.rest; new_is = p.new_is ∙ ap (λ x. x ++ p.part) is ∙ append_assoc old a p.part; spelling_is = ap (λ x. a ++ x) p.spelling_is ∙ sym (append_assoc a p.part p.rest) }

pub after_both : {A : Type 0} (old mid new a b : List A) → mid ≡ old ++ a → new ≡ mid ++ b → new ≡ old ++ (a ++ b)
after_both old mid new a b p q = q ∙ ap (λ x. x ++ b) p ∙ append_assoc old a b

-- what comes after a whole spelling
pub then_all : (old mid new a b : List XmlEvent) (r : Result (Unit {0}) XmlWriteError) → mid ≡ old ++ a → Appends mid new b r → Appends old new (a ++ b) r
then_all old mid new a b (Ok u) p q = after_both old mid new a b p q
then_all old mid new a b (Err (Memory e)) p q = partly_after old mid new a b p q
then_all old mid new a b (Err (BomError e)) p q = q
then_all old mid new a b (Err (XmlElementWriteError n)) p q = q

-- The first of two spellings was refused.
pub first_fails : (old new a b : List XmlEvent) (e : XmlWriteError) → Appends old new a (Err e) → Appends old new (a ++ b) (Err e)
first_fails old new a b (Memory e) p = partly_first old new a b p
first_fails old new a b (BomError e) p = p
first_fails old new a b (XmlElementWriteError n) p = p

-- The last of a record's rows was written.
pub last_row : (old new a : List XmlEvent) (r : Result (Unit {0}) XmlWriteError) → Appends old new a r → Appends old new (a ++ []) r
last_row old new a r p = subst (λ s. Appends old new s r) (sym (append-nil a)) p

-- ---- any number of spellings, one after the other

-- What was written brought the writer from old to mid: what is written of `next` from there on is of `so_far next` from old on.
pub record Reached (old mid : List XmlEvent) (so_far : List XmlEvent → List XmlEvent) : Type 0 where
  pub then_all : (new next : List XmlEvent) (r : Result (Unit {0}) XmlWriteError) → Appends mid new next r → Appends old new (so_far next) r

pub from : (old : List XmlEvent) → Reached old old (λ next. next)
from old = record { then_all = λ new next r q. q }

infixl 50 ◌▸◌
-- One spelling more was written whole; it stands beside the equation, which doesn't determine it.
pub ◌▸◌ : {old mid now : List XmlEvent} {so_far : List XmlEvent → List XmlEvent} → Reached old mid so_far → (step : (a : List XmlEvent) × (now ≡ mid ++ a)) → Reached old now (λ next. so_far (step.0 ++ next))
◌▸◌ {mid = mid} {now = now} reached step = record { then_all = λ new next r q. reached.then_all new (step.0 ++ next) r (then_all mid now new step.0 next r step.1 q) }

-- The next spelling was refused, and another would have followed it.
pub then_fails : {old mid : List XmlEvent} {so_far : List XmlEvent → List XmlEvent} → Reached old mid so_far → (new a b : List XmlEvent) (e : XmlWriteError) → Appends mid new a (Err e) → Appends old new (so_far (a ++ b)) (Err e)
then_fails {mid = mid} reached new a b e q = reached.then_all new (a ++ b) (Err e) (first_fails mid new a b e q)

-- The next spelling is that of a record's last row.
pub then_last : {old mid : List XmlEvent} {so_far : List XmlEvent → List XmlEvent} → Reached old mid so_far → (new a : List XmlEvent) (r : Result (Unit {0}) XmlWriteError) → Appends mid new a r → Appends old new (so_far (a ++ [])) r
then_last {mid = mid} reached new a r q = reached.then_all new (a ++ []) r (last_row mid new a r q)

-- Attributes were added to none.
pub all_added : {A : Type 0} (none new s : List A) → none ≡ [] → new ≡ none ++ s → new ≡ s
all_added none new s is e = e ∙ ap (λ q. q ++ s) is

pub last_added : {A : Type 0} (old new a : List A) → new ≡ old ++ a → new ≡ old ++ (a ++ [])
last_added old new a e = e ∙ ap (λ s. old ++ s) (sym (append-nil a))

-- ---- a list's spellings

-- the spelling of a list at item i
flat_at : {X : Type 0} (f : X → List XmlEvent) (xs : List X) (i : ℕ) (x : X) → i < length xs → x ≡ get_or xs i x
    → flat_map f xs ≡ flat_map f (take i xs) ++ (f x ++ flat_map f (drop (i + 1) xs))
flat_at f xs i x h is =
    let split : xs ≡ take i xs ++ x ∷ drop (i + 1) xs = sym (take-append-drop i xs) ∙ ap (λ ys. take i xs ++ ys) (drop_more xs i x h ∙ ap (λ y. y ∷ drop (i + 1) xs) (sym is)) in
    ap (flat_map f) split ∙ flat_map-append f (take i xs) (x ∷ drop (i + 1) xs)

-- A loop that writes the items of a list: what each is written as, the list, and how far it has come.
pub record WritingLoop (X : Type 0) : Type 0 where
  pub spelled : X → List XmlEvent
  pub items : List X
  pub index : ℕ
  pub start : List XmlEvent
  pub reached : List XmlEvent

-- the loop over these items, at an index, from one list of events to another
abbrev pub writing_items : {X : Type 0} → (X → List XmlEvent) → List X → ℕ → List XmlEvent → List XmlEvent → WritingLoop X
writing_items f xs i old mid = record { spelled = f; items = xs; index = i; start = old; reached = mid }

-- What was written is what the items before the index are written as.
abbrev pub IsWrittenSoFar : {X : Type 0} → WritingLoop X → Type 0
IsWrittenSoFar l = l.reached ≡ l.start ++ flat_map l.spelled (take l.index l.items)

-- An item was refused, after the items before it.
pub item_fails : {X : Type 0} (l : WritingLoop X) (new rest : List XmlEvent) (ys : List X) (x : X) (e : XmlWriteError) → l.items ≡ ys → l.index < length l.items → x ≡ get_or l.items l.index x
    → IsWrittenSoFar l → Appends l.reached new (l.spelled x) (Err e) → Appends l.start new (flat_map l.spelled ys ++ rest) (Err e)
item_fails l new rest ys x e same h is inv fails =
    let f = l.spelled in
    let before = flat_map f (take l.index l.items) in
    let behind = flat_map f (drop (l.index + 1) l.items) in
    let part = then_all l.start l.reached new before (f x ++ (behind ++ rest)) (Err e) inv (first_fails l.reached new (f x) (behind ++ rest) e fails) in
    let shape = ap (λ s. s ++ rest) (sym (ap (flat_map f) same) ∙ flat_at f l.items l.index x h is) ∙ append_assoc before (f x ++ behind) rest ∙ ap (λ s. before ++ s) (append_assoc (f x) behind rest) in
    subst (λ s. Appends l.start new s (Err e)) (sym shape) part

-- One item more was written.
pub item_written : {X : Type 0} (l : WritingLoop X) (new : List XmlEvent) (x : X) → l.index < length l.items → x ≡ get_or l.items l.index x
    → IsWrittenSoFar l → new ≡ l.reached ++ l.spelled x → IsWrittenSoFar (writing_items l.spelled l.items (l.index + 1) l.start new)
item_written l new x h is inv e =
    let f = l.spelled in
    let before = take l.index l.items in
    after_both l.start l.reached new (flat_map f before) (f x) inv e
    ∙ ap (λ s. l.start ++ s) (sym (ap (flat_map f) (take_more l.items l.index x h ∙ ap (λ y. before ++ y ∷ []) (sym is)) ∙ flat_map-append f before (x ∷ []) ∙ ap (λ s. flat_map f before ++ s) (append-nil (f x))))

-- All items were written.
pub items_end : {X : Type 0} (l : WritingLoop X) (ys : List X) → l.items ≡ ys → length l.items ≤ l.index → IsWrittenSoFar l → l.reached ≡ l.start ++ flat_map l.spelled ys
items_end l ys same h inv = inv ∙ ap (λ zs. l.start ++ flat_map l.spelled zs) (take_all l.index l.items h ∙ same)
