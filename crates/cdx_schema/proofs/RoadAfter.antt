-- A road gives a document for each hop, and each denotes what it should.
use Rattle.std.specs.Prelude.{◌≡◌, refl, ℕ, zero, suc, List, [], ◌∷◌, ◌++◌, length, take, true, not, ◌||◌, Some, Ok}
use Rattle.std.proofs.Common.{true≢false}
use mathlib.Core.Path.{ap, sym, ◌∙◌, subst}
use Rattle.cdx_models.specs.declared.bom.SpecVersion.{SpecVersion}
use Rattle.cdx_models.specs.declared.bom.SpecVersion.TheVariants.{V1_3, V1_4, V1_5}
use Rattle.cdx_models.specs.Versions.{lowest, is_first}
use Rattle.cdx_models.specs.Trees.{Tree}
use Rattle.cdx_schema.specs.Kinds.{a_bill}
use Rattle.cdx_schema.specs.Depth.{top}
use Rattle.cdx_schema.specs.Keeping.{kept, keep, fits, has_versions}
use Rattle.cdx_schema.specs.Trips.{bare, settled, Form, in_json, in_xml, Hop, lowest_of, last_of, trips}
use Rattle.cdx_schema.specs.Roads.{Doc, denotes, from_json, from_xml, document_of, fits_all, hops_from, road}
use Rattle.cdx_schema.specs.Membership.{Never, AnyText}
use Rattle.cdx_schema.specs.Laws.{HasBillShape, IsShallow, Fits, nth, after_all, IsInForm, DenotesAfter, LeadsFrom}
use Rattle.cdx_schema.proofs.JsonBack.{and_true}
use Rattle.cdx_schema.proofs.KeptTwice.{kept_twice}
use Rattle.cdx_schema.proofs.KeptOf.{kept_of, kept_versions, kept_shallow}
use Rattle.cdx_schema.proofs.XmlLaw.{tripped}
use Rattle.cdx_schema.proofs.TrippedOf.{tripped_of, tripped_versions, tripped_shallow, bare_of}
use Rattle.cdx_schema.proofs.SameTrip.{trip_same}
use Rattle.cdx_schema.proofs.Commute.{bare_kept}
use Rattle.cdx_schema.proofs.Alike.{kept_alike, bare_alike}
use Rattle.cdx_schema.proofs.BareTwice.{bare_thrice}
use Rattle.cdx_schema.proofs.BillRead.{reads_json, reads_xml}
use Rattle.cdx_schema.proofs.ReadOfXml.{none_some}
use Rattle.cdx_schema.proofs.Basics.{some_same}

-- ---- the bill after one hop more

pub lowest_sym : (v w : SpecVersion) → lowest v w ≡ lowest w v
lowest_sym V1_3 V1_3 = refl
lowest_sym V1_3 V1_4 = refl
lowest_sym V1_3 V1_5 = refl
lowest_sym V1_4 V1_3 = refl
lowest_sym V1_4 V1_4 = refl
lowest_sym V1_4 V1_5 = refl
lowest_sym V1_5 V1_3 = refl
lowest_sym V1_5 V1_4 = refl
lowest_sym V1_5 V1_5 = refl

pub lowest_more : (v : SpecVersion) (hs : List Hop) (g : Hop) → lowest_of v (hs ++ (g ∷ [])) ≡ lowest (lowest_of v hs) g.version
lowest_more v [] g = refl
lowest_more v (h ∷ hs) g = lowest_more (lowest v h.version) hs g

pub last_more : (v : SpecVersion) (hs : List Hop) (g : Hop) → last_of v (hs ++ (g ∷ [])) ≡ g.version
last_more v [] g = refl
last_more v (h ∷ hs) g = last_more h.version hs g

abbrev pub taken : Form → Tree → Tree
taken in_json t = t
taken in_xml t = bare t

trips_none : (n : ℕ) (y : Tree) → trips [] n y ≡ y
trips_none zero y = refl
trips_none (suc n) y = refl

kept_step : (f : Form) (w l : SpecVersion) (a b c d : Tree) → kept w l a a_bill ≡ c → kept w l b a_bill ≡ d → kept w l (elim f [ in_json ↦ a | in_xml ↦ b ]) a_bill ≡ elim f [ in_json ↦ c | in_xml ↦ d ]
kept_step in_json w l a b c d p q = p
kept_step in_xml w l a b c d p q = q

pub kept_trips : (w l : SpecVersion) (hs : List Hop) (n : ℕ) (y : Tree) → HasBillShape y → kept w l (trips hs n y) a_bill ≡ trips hs n (kept w l y a_bill)
kept_trips w l hs zero y of = refl
kept_trips w l [] (suc n) y of = refl
kept_trips w l (h ∷ hs) (suc n) y of = kept_step h.form w l (trips hs (suc n) y) (trips hs n (bare y)) (trips hs (suc n) (kept w l y a_bill)) (trips hs n (bare (kept w l y a_bill)))
    (kept_trips w l hs (suc n) y of)
    (kept_trips w l hs n (bare y) (bare_of AnyText y a_bill of) ∙ ap (trips hs n) (sym (bare_kept w l y a_bill of)))

-- After n trips a trip takes nothing.
abbrev Stable : ℕ → Tree → Type 0
Stable zero y = bare y ≡ y
Stable (suc n) y = Stable n (bare y)

taken_stable : (f : Form) (y : Tree) → bare y ≡ y → y ≡ taken f y
taken_stable in_json y h = refl
taken_stable in_xml y h = sym h

taken_first : (f : Form) (n : ℕ) (y : Tree) → (elim f [ in_json ↦ y | in_xml ↦ trips [] n (bare y) ]) ≡ taken f y
taken_first in_json n y = refl
taken_first in_xml n y = trips_none n (bare y)

taken_step : (f g : Form) (a b c d : Tree) → a ≡ taken g c → b ≡ taken g d → (elim f [ in_json ↦ a | in_xml ↦ b ]) ≡ taken g (elim f [ in_json ↦ c | in_xml ↦ d ])
taken_step in_json g a b c d p q = p
taken_step in_xml g a b c d p q = q

trips_more : (hs : List Hop) (g : Hop) (n : ℕ) (y : Tree) → Stable n y → trips (hs ++ (g ∷ [])) n y ≡ taken g.form (trips hs n y)
trips_more hs g zero y s = taken_stable g.form y s
trips_more [] g (suc n) y s = taken_first g.form n y
trips_more (h ∷ hs) g (suc n) y s = taken_step h.form g.form (trips (hs ++ (g ∷ [])) (suc n) y) (trips (hs ++ (g ∷ [])) n (bare y)) (trips hs (suc n) y) (trips hs n (bare y))
    (trips_more hs g (suc n) y s) (trips_more hs g n (bare y) s)

taken_alone : (f : Form) (y : Tree) → taken f y ≡ (elim f [ in_json ↦ y | in_xml ↦ bare y ])
taken_alone in_json y = refl
taken_alone in_xml y = refl

pub after_more : (b : Tree) (before : List Hop) (g : Hop) → HasBillShape b → taken g.form (keep g.version (after_all b before) a_bill) ≡ after_all b (before ++ (g ∷ []))
after_more b [] g of = taken_alone g.form (kept g.version g.version b a_bill)
after_more b (h ∷ hs) g of =
    let u : SpecVersion = lowest_of h.version hs in
    let l : SpecVersion = last_of h.version hs in
    let w : SpecVersion = g.version in
    ap (taken g.form) (kept_trips w w (h ∷ hs) 2 (kept u l b a_bill) (kept_of AnyText u l b a_bill of))
    ∙ (ap (λ x. taken g.form (trips (h ∷ hs) 2 x)) (kept_twice w u l w b a_bill of)
    ∙ (sym (trips_more (h ∷ hs) g 2 (kept (lowest w u) w b a_bill) (bare_thrice (kept (lowest w u) w b a_bill) a_bill (kept_of AnyText (lowest w u) w b a_bill of)))
    ∙ (ap (λ x. trips ((h ∷ hs) ++ (g ∷ [])) 2 (kept x w b a_bill)) (lowest_sym w u ∙ sym (lowest_more h.version hs g))
    ∙ ap (λ x. trips ((h ∷ hs) ++ (g ∷ [])) 2 (kept (lowest_of h.version (hs ++ (g ∷ []))) x b a_bill)) (sym (last_more h.version hs g)))))

-- ---- one hop

-- A bill that a document denotes, with what is needed of it.
abbrev pub IsNext : Form → SpecVersion → Tree → Tree → Type 0
IsNext f w c d = (denotes (document_of f w (keep w c a_bill)) w ≡ Ok d) × HasBillShape d × IsShallow d × (has_versions d a_bill ≡ has_versions c a_bill) × (settled d a_bill ≡ settled (taken f (keep w c a_bill)) a_bill)

pub hop : (f : Form) (w : SpecVersion) (c : Tree) → HasBillShape c → IsShallow c → Fits w c → (d : Tree) × IsNext f w c d
hop in_json w c of s f = (
  keep w c a_bill,
  (
    ap from_json (reads_json c w of f s),
    kept_of AnyText w w c a_bill of,
    kept_shallow w w c a_bill top s,
    kept_versions w w c a_bill of,
    refl,
  ),
)
hop in_xml w c of s f =
    let k : HasBillShape (keep w c a_bill) = kept_of AnyText w w c a_bill of in (
      tripped w (keep w c a_bill) a_bill,
      (
        ap from_xml (reads_xml c w of f s),
        tripped_of AnyText w (keep w c a_bill) a_bill k,
        tripped_shallow w (keep w c a_bill) a_bill top (kept_shallow w w c a_bill top s),
        tripped_versions w (keep w c a_bill) a_bill k ∙ kept_versions w w c a_bill of,
        trip_same w (keep w c a_bill) a_bill,
      ),
    )

pub taken_alike : (f : Form) (x y : Tree) → settled x a_bill ≡ settled y a_bill → settled (taken f x) a_bill ≡ settled (taken f y) a_bill
taken_alike in_json x y e = e
taken_alike in_xml x y e = bare_alike x y a_bill e

fits_alike : (w : SpecVersion) (c d : Tree) → has_versions d a_bill ≡ has_versions c a_bill → fits w d a_bill ≡ fits w c a_bill
fits_alike w c d e = ap (λ x. not (is_first w) || x) e

pub fits_all_alike : (hs : List Hop) (c d : Tree) → has_versions d a_bill ≡ has_versions c a_bill → fits_all hs d ≡ fits_all hs c
fits_all_alike [] c d e = refl
fits_all_alike (h ∷ hs) c d e = rw (fits_alike h.version c d e, fits_all_alike hs c d e) refl

-- ---- roads

-- There is a document for each hop, each in its hop's form, and it denotes the same as the bill after the hops up to it.
abbrev AllAfter : Tree → List Hop → List Hop → List Doc → Type 0
AllAfter b before [] [] = Unit {0}
AllAfter b before [] (x ∷ xs) = Never
AllAfter b before (h ∷ hs) [] = Never
AllAfter b before (h ∷ hs) (x ∷ xs) = (IsInForm h.form x × DenotesAfter b (before ++ (h ∷ [])) x h.version) × AllAfter b (before ++ (h ∷ [])) hs xs

in_form : (f : Form) (w : SpecVersion) (t : Tree) → IsInForm f (document_of f w t)
in_form in_json w t = tt
in_form in_xml w t = tt

as_many : (b : Tree) (before hs : List Hop) (xs : List Doc) → AllAfter b before hs xs → length xs ≡ length hs
as_many b before [] [] a = refl
as_many b before [] (x ∷ xs) a = absurd (true≢false a)
as_many b before (h ∷ hs) [] a = absurd (true≢false a)
as_many b before (h ∷ hs) (x ∷ xs) a = ap suc (as_many b (before ++ (h ∷ [])) hs xs a.1)

pub one_more : (before : List Hop) (h : Hop) (hs : List Hop) → (before ++ (h ∷ [])) ++ hs ≡ before ++ (h ∷ hs)
one_more [] h hs = refl
one_more (x ∷ before) h hs = ap (x ∷◌) (one_more before h hs)

-- the document of a number
numbered : (b : Tree) (before hs : List Hop) (xs : List Doc) → AllAfter b before hs xs → (k : ℕ) (g : Hop) (y : Doc) → nth k hs ≡ Some g → nth k xs ≡ Some y → IsInForm g.form y × DenotesAfter b (before ++ take k hs) y g.version
numbered b before [] xs a k g y p q = none_some p
numbered b before (h ∷ hs) [] a k g y p q = none_some q
numbered b before (h ∷ hs) (x ∷ xs) a zero g y p q = none_some p
numbered b before (h ∷ hs) (x ∷ xs) a (suc zero) g y p q =
    subst (λ (f : Hop). IsInForm f.form y × DenotesAfter b (before ++ (h ∷ [])) y f.version) (some_same p)
    (subst (λ (z : Doc). IsInForm h.form z × DenotesAfter b (before ++ (h ∷ [])) z h.version) (some_same q) a.0)
numbered b before (h ∷ hs) (x ∷ xs) a (suc (suc k)) g y p q =
    subst (λ (gs : List Hop). IsInForm g.form y × DenotesAfter b gs y g.version) (one_more before h (take (suc k) hs))
    (numbered b (before ++ (h ∷ [])) hs xs a.1 (suc k) g y p q)

roads : (b : Tree) → HasBillShape b → (hs before : List Hop) (x : Doc) (v : SpecVersion) (c : Tree) → denotes x v ≡ Ok c → HasBillShape c → IsShallow c → fits_all hs c ≡ true
    → settled c a_bill ≡ settled (after_all b before) a_bill → (docs : List Doc) × (hops_from x v hs ≡ Ok docs) × AllAfter b before hs docs
roads b ob [] before x v c is of s f e = ([], refl, tt)
roads b ob (h ∷ hs) before x v c is of s f e =
    let w : SpecVersion = h.version in
    let p : (fits w c a_bill ≡ true) × (fits_all hs c ≡ true) = and_true (fits w c a_bill) (fits_all hs c) f in
    let y : Doc = document_of h.form w (keep w c a_bill) in
    let n : (d : Tree) × IsNext h.form w c d = hop h.form w c of s p.0 in
    let same : settled n.0 a_bill ≡ settled (after_all b (before ++ (h ∷ []))) a_bill =
    n.1.4 ∙ (taken_alike h.form (keep w c a_bill) (keep w (after_all b before) a_bill) (kept_alike w w c (after_all b before) a_bill e) ∙ ap (λ t. settled t a_bill) (after_more b before h ob)) in
    let r : (docs : List Doc) × (hops_from y w hs ≡ Ok docs) × AllAfter b (before ++ (h ∷ [])) hs docs = roads b ob hs (before ++ (h ∷ [])) y w n.0 n.1.0 n.1.1 n.1.2 (fits_all_alike hs c n.0 n.1.3 ∙ p.1) same in
    (y ∷ r.0, rw (is, r.1) refl, ((in_form h.form w (keep w c a_bill), (n.0, n.1.0, same)), r.2))

pub roads_lead : (b : Tree) (x : Doc) (v : SpecVersion) (hops : List Hop) → denotes x v ≡ Ok b → HasBillShape b → IsShallow b → fits_all hops b ≡ true
    → (docs : List Doc) × (road x v hops ≡ Ok docs) × LeadsFrom b hops docs
roads_lead b x v hops is of s f =
    let r : (docs : List Doc) × (hops_from x v hops ≡ Ok docs) × AllAfter b [] hops docs = roads b of hops [] x v b is of s f refl in
    (r.0, rw (is, f) r.1, (as_many b [] hops r.0 r.2, numbered b [] hops r.0 r.2))
