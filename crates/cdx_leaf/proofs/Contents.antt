-- Records whose content is a text.
use Rattle.std.proofs.Common.{◌≡◌, ℕ, suc, ◌+◌, ◌-◌, List, true, Result, Ok, Err, refl, sym, ap, ◌∙◌, subst}
use Rattle.std.specs.Prelude.{if◌then◌else◌}
use Rattle.cdx_events.specs.declared.name.OwnedName.{OwnedName}
use Rattle.cdx_events.specs.declared.name.OwnedAttribute.{OwnedAttribute}
use Rattle.cdx_events.specs.declared.name.Namespace.{Namespace}
use Rattle.cdx_events.specs.Nodes.{Nodes, element}
use Rattle.cdx_events.specs.Cursor.{Cursor}
use Rattle.cdx_models.specs.declared.errors.XmlReadError.{XmlReadError}
use Rattle.cdx_models.specs.declared.bom.SpecVersion.{SpecVersion}
use Rattle.cdx_models.specs.Trees.{Name, Tree, Trees, text, fields, with_field}
use Rattle.cdx_schema.specs.Faults.{nested}
use Rattle.cdx_schema.specs.Results.{◌>>=◌}
use Rattle.cdx_schema.specs.Depth.{Depth}
use Rattle.cdx_schema.specs.Plain.{is_plain}
use Rattle.cdx_schema.proofs.PlainNames.{plain_name}
use Rattle.cdx_schema.specs.Kinds.{a_record}
use Rattle.cdx_schema.specs.Table.{rows}
use Rattle.cdx_schema.specs.Nodes.{places_of}
use Rattle.cdx_schema.specs.XmlReading.{any_text, one_text_alone, content_from, content_fields, simple_text, exact_text, attributes_read, in_force, ended, Element, record_denoted, xread, nodes_read}
use Rattle.cdx_leaf.specs.Attribute.{GivesAt}
use Rattle.cdx_leaf.specs.Reading.{Reads, ReadsAs, behind_end}
use Rattle.cdx_leaf.specs.Content.{with_text, ReadsContent}
use Rattle.cdx_leaf.proofs.Records.{first_fails}
use Rattle.cdx_leaf.proofs.Whole.{finished, start_is}

abbrev paired : Result (List ℕ) XmlReadError → Trees → Result (Trees × List ℕ) XmlReadError
paired (Ok s) ts = Ok (ts, s)
paired (Err f) ts = Err f

paired_is : (r : Result (List ℕ) XmlReadError) (ts : Trees) → paired r ts ≡ (r >>= λ s. let x : Trees × List ℕ = (ts, s) in Ok x)
paired_is (Ok s) ts = refl
paired_is (Err f) ts = refl

-- The content of a record is field i, read like this.
abbrev pub HasContent : Name → ℕ → (Nodes → List ℕ → ℕ → Result (List ℕ) XmlReadError) → Type 0
HasContent name i read =
    (e : Element) (ts : Trees) (v : SpecVersion) (d : Depth) → content_fields (content_from 0 (rows name)) e name ts v d ≡ (read e.nodes e.name (suc e.start) >>= λ s. Ok (with_field i (text s) ts))

pub any_content : (name : Name) (i : ℕ) → content_from 0 (rows name) ≡ any_text i → HasContent name i (λ nodes el q. simple_text nodes el q)
any_content name i is e ts v d = ap (λ c. content_fields c e name ts v d) is

pub text_content : (name : Name) (i : ℕ) → content_from 0 (rows name) ≡ one_text_alone i → HasContent name i (λ nodes el q. exact_text nodes el q)
text_content name i is e ts v d = ap (λ c. content_fields c e name ts v d) is

module _ (name : Name) (i : ℕ) (read : Nodes → List ℕ → ℕ → Result (List ℕ) XmlReadError) (has : HasContent name i read) (plain : is_plain name ≡ true) where
  pub content_is : (v : SpecVersion) (n : OwnedName) (a : List OwnedAttribute) (ns : Namespace) (d : Depth) (p : ℕ) (nodes : Nodes)
      → xread (element n a ns nodes) v (a_record name) p d ≡ (with_text read (attributes_read (rows name) (in_force name a) v n.local_name p) n.local_name p nodes >>= λ x. finished name v n.local_name (suc (p + places_of nodes)) (with_field i (text x.1) x.0))
  unfolding xread
  content_is v n a ns d p nodes =
      let e : Element = record { name = n.local_name; attributes = a; namespace = ns.default; nodes = nodes; start = p; read = λ plan w e ts. nodes_read nodes plan n.local_name w e (suc p) ts } in
      let last : Trees → Result Tree XmlReadError = λ ts. finished name v n.local_name (suc (p + places_of nodes)) ts in
      let first = attributes_read (rows name) (in_force name a) v n.local_name p in
      ap (λ b. if b then Err (nested p) else record_denoted e name v d) ((plain_name name plain).shallow d)
      ∙ ap (λ x. (first >>= λ ts. content_fields (content_from 0 (rows name)) e name ts v x) >>= last) ((plain_name name plain).same_depth d)
      ∙ go e first last
    where
      inner : (r : Result (List ℕ) XmlReadError) (ts : Trees) (last : Trees → Result Tree XmlReadError) → ((r >>= λ s. Ok (with_field i (text s) ts)) >>= last) ≡ (paired r ts >>= λ x. last (with_field i (text x.1) x.0))
      inner (Ok s) ts last = refl
      inner (Err f) ts last = refl

      go : (e : Element) (first : Result Trees XmlReadError) (last : Trees → Result Tree XmlReadError) → ((first >>= λ ts. content_fields (content_from 0 (rows name)) e name ts v d) >>= last) ≡ (with_text read first e.name e.start e.nodes >>= λ x. last (with_field i (text x.1) x.0))
      go e (Ok ts) last = ap (λ r. r >>= last) (has e ts v d) ∙ inner (read e.nodes e.name (suc e.start)) ts last ∙ ap (λ q. q >>= λ x. last (with_field i (text x.1) x.0)) (paired_is (read e.nodes e.name (suc e.start)) ts)
      go e (Err f) last = refl

  -- What is read of the content is a whole record, of which nothing has to be there at the end.
  pub whole_content : {A : Type 0} (view : A → Trees) (v : SpecVersion) (n : OwnedName) (a : List OwnedAttribute) (old new : Cursor) (k : ℕ) (begun : Result A XmlReadError) (result : Result (A × List ℕ) XmlReadError)
      → ((x : A) (s : List ℕ) (q : ℕ) → ended (rows name) (with_field i (text s) (view x)) v n.local_name q ≡ Ok (with_field i (text s) (view x)))
      → old.place ≡ k → GivesAt view ((k - 1) + 1) (attributes_read (rows name) (in_force name a) v n.local_name (k - 1)) begun
      → ReadsContent read old new n begun result
      → ReadsAs (λ (x : A × List ℕ). fields name (with_field i (text x.1) (view x.0))) old new n a v (a_record name) (λ d. d) result
  whole_content {A = A} view v n a old new k begun result ends at gives reads d ns p nodes rest st =
      let first : ℕ → Result Trees XmlReadError = λ x. attributes_read (rows name) (in_force name a) v n.local_name x in
      let gives' : GivesAt view (p + 1) (first p) begun = subst (λ x. GivesAt view (x + 1) (first x) begun) (start_is old.place k p at st.place) gives in
      subst (λ x. Reads (λ (x : A × List ℕ). fields name (with_field i (text x.1) (view x.0))) old new (behind_end old nodes rest) x result) (sym (content_is v n a ns d p nodes))
      (as_it_is result (reads view (first p) p nodes rest st gives'))
    where
      denoted : Result (Trees × List ℕ) XmlReadError
      denoted = with_text read (attributes_read (rows name) (in_force name a) v n.local_name p) n.local_name p nodes

      last : Trees × List ℕ → Result Tree XmlReadError
      last x = finished name v n.local_name (suc (p + places_of nodes)) (with_field i (text x.1) x.0)

      as_it_is : (r : Result (A × List ℕ) XmlReadError) → Reads (λ (x : A × List ℕ). (view x.0, x.1)) old new (behind_end old nodes rest) denoted r → Reads (λ (x : A × List ℕ). fields name (with_field i (text x.1) (view x.0))) old new (behind_end old nodes rest) (denoted >>= last) r
      as_it_is (Ok x) h = (ap (λ q. q >>= last) h.0 ∙ ap (λ r. r >>= λ us. Ok (fields name us)) (ends x.0 x.1 (suc (p + places_of nodes))), h.1)
      as_it_is (Err e) h = (h.0, first_fails e new.place denoted last h.1)
