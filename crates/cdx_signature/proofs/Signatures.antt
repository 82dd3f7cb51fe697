-- Signatures, and the lists in them.
use Rattle.std.proofs.Common.{◌≡◌, ℕ, suc, ◌+◌, List, true, Result, Ok, Err, refl, sym, ap, ◌∙◌, subst}
use Rattle.std.specs.Prelude.{codes}
use Rattle.cdx_events.specs.declared.name.OwnedName.{OwnedName}
use Rattle.cdx_events.specs.declared.name.OwnedAttribute.{OwnedAttribute}
use Rattle.cdx_events.specs.declared.name.Namespace.{Namespace}
use Rattle.cdx_events.specs.Cursor.{Cursor}
use Rattle.cdx_events.specs.Nodes.{Nodes, element}
use Rattle.cdx_models.specs.declared.bom.SpecVersion.{SpecVersion}
use Rattle.cdx_models.specs.declared.errors.XmlReadError.{XmlReadError}
use Rattle.cdx_signature.specs.declared.signature.Signature.{Signature}
use Rattle.cdx_signature.specs.declared.signature.Signature.TheVariants as signature
use Rattle.cdx_signature.specs.declared.signature.Signer.{Signer}
use Rattle.cdx_signature.specs.Records.{signature_tree, signer_tree}
use Rattle.cdx_models.specs.Trees.{Name, Tree, Trees, absent, fields, more, one, two, list_tree, signer, signers, chain}
use Rattle.cdx_schema.specs.Results.{◌>>=◌}
use Rattle.cdx_schema.specs.Depth.{Depth}
use Rattle.cdx_schema.specs.Kinds.{a_record, a_signature}
use Rattle.cdx_schema.specs.Nodes.{places_of}
use Rattle.cdx_schema.specs.Plain.{is_plain}
use Rattle.cdx_schema.specs.Table.{rows, rule, list}
use Rattle.cdx_schema.specs.XmlReading.{Element, Plan, no_content, content_from, record_plan, attributes_read, in_force, ended, signature_plan, signature_of, xread, nodes_read}
use Rattle.cdx_signature.specs.declared.parts.SignerPart.{SignerPart}
use Rattle.cdx_leaf.specs.declared.rule.Rule.TheVariants.{Strict}
use Rattle.cdx_leaf.specs.Fault.{FailsAt}
use Rattle.cdx_leaf.specs.Each.{each_node, plan_step}
use Rattle.cdx_leaf.specs.Listing.{listing_plan, ReadsItems}
use Rattle.cdx_signature.specs.Parts.{signer_part}
use Rattle.cdx_leaf.specs.RowContents.{content_from_rows}
use Rattle.cdx_leaf.specs.Reading.{Reads, ReadsAs, behind_end}
use Rattle.cdx_leaf.specs.Trees.{collected}
use Rattle.cdx_leaf.proofs.ChildSteps.{each_is}
use Rattle.cdx_leaf.proofs.Parts.{filled_list}
use Rattle.cdx_leaf.proofs.Records.{first_fails}
use Rattle.cdx_leaf.proofs.Whole.{finished, record_is}

-- ---- a record of one list of signers

record IsListed (name : Name) (inner : List ℕ) : Type 0 where
  begins : (a : List OwnedAttribute) (v : SpecVersion) (el : List ℕ) (p : ℕ) → attributes_read (rows name) (in_force name a) v el p ≡ Ok (one absent)
  plan : record_plan name ≡ listing_plan Strict inner (a_record signer)
  ends : (xs : List Signer) (v : SpecVersion) (el : List ℕ) (q : ℕ) → ended (rows name) (one (collected signer_tree xs)) v el q ≡ Ok (one (list_tree signer_tree xs))

signers_listed : IsListed signers (codes "signer")
unfolding rows rule list attributes_read ended
signers_listed = record { begins = λ a v el p. refl; plan = refl; ends = λ xs v el q. ap (λ t. Ok (one t)) (filled_list signer_tree xs) }

chain_listed : IsListed chain (codes "chain")
unfolding rows rule list attributes_read ended
chain_listed = record { begins = λ a v el p. refl; plan = refl; ends = λ xs v el q. ap (λ t. Ok (one t)) (filled_list signer_tree xs) }

listed_is : (name : Name) (inner : List ℕ) → content_from 0 (rows name) ≡ no_content → is_plain name ≡ true → IsListed name inner → (v : SpecVersion) (n : OwnedName) (a : List OwnedAttribute) (ns : Namespace) (d : Depth) (p : ℕ) (nodes : Nodes)
    → xread (element n a ns nodes) v (a_record name) p d ≡ (each_node (plan_step (listing_plan Strict inner (a_record signer)) v d n.local_name) nodes (suc p) (one absent) >>= λ ts. finished name v n.local_name (suc (p + places_of nodes)) ts)
listed_is name inner alone plain listed v n a ns d p nodes =
    let last : Trees → Result Tree XmlReadError = λ ts. finished name v n.local_name (suc (p + places_of nodes)) ts in
    record_is name alone plain v n a ns d p nodes
    ∙ ap (λ x. (x >>= λ ts. each_node (plan_step (record_plan name) v d n.local_name) nodes (suc p) ts) >>= last) (listed.begins a v n.local_name p)
    ∙ ap (λ (x : Plan). each_node (plan_step x v d n.local_name) nodes (suc p) (one absent) >>= last) listed.plan

finishes : (name : Name) (inner : List ℕ) → IsListed name inner → (v : SpecVersion) (el : List ℕ) (q : ℕ) (old new end : Cursor) (denoted : Result Trees XmlReadError) (result : Result (List Signer) XmlReadError)
    → Reads (λ xs. one (collected signer_tree xs)) old new end denoted result → Reads (λ xs. fields name (one (list_tree signer_tree xs))) old new end (denoted >>= λ ts. finished name v el q ts) result
finishes name inner listed v el q old new end denoted (Ok xs) h =
    (ap (λ r. r >>= λ ts. finished name v el q ts) h.0 ∙ ap (λ r. r >>= λ us. Ok (fields name us)) (listed.ends xs v el q), h.1)
finishes name inner listed v el q old new end denoted (Err e) h = (h.0, first_fails e new.place denoted (λ ts. finished name v el q ts) h.1)

reads_listed : (name : Name) (inner : List ℕ) → content_from 0 (rows name) ≡ no_content → is_plain name ≡ true → IsListed name inner → (old new : Cursor) (v : SpecVersion) (n : OwnedName) (a : List OwnedAttribute) (result : Result (List Signer) XmlReadError)
    → ReadsItems signer_tree (a_record signer) (λ d. d) old new v n inner Strict result → ReadsAs (λ xs. fields name (one (list_tree signer_tree xs))) old new n a v (a_record name) (λ d. d) result
reads_listed name inner alone plain listed old new v n a result reads d ns p nodes rest st =
    subst (λ x. Reads (λ xs. fields name (one (list_tree signer_tree xs))) old new (behind_end old nodes rest) x result) (sym (listed_is name inner alone plain listed v n a ns d p nodes))
    (finishes name inner listed v n.local_name (suc (p + places_of nodes)) old new (behind_end old nodes rest) (each_node (plan_step (listing_plan Strict inner (a_record signer)) v d n.local_name) nodes (suc p) (one absent)) result (reads d p nodes rest st))

pub reads_signers : (old new : Cursor) (v : SpecVersion) (n : OwnedName) (a : List OwnedAttribute) (result : Result (List Signer) XmlReadError)
    → ReadsItems signer_tree (a_record signer) (λ d. d) old new v n (codes "signer") Strict result → ReadsAs (λ xs. fields signers (one (list_tree signer_tree xs))) old new n a v (a_record signers) (λ d. d) result
reads_signers old new v n a result reads = reads_listed signers (codes "signer") (content_from_rows signers) refl signers_listed old new v n a result reads

pub reads_chain : (old new : Cursor) (v : SpecVersion) (n : OwnedName) (a : List OwnedAttribute) (result : Result (List Signer) XmlReadError)
    → ReadsItems signer_tree (a_record signer) (λ d. d) old new v n (codes "chain") Strict result → ReadsAs (λ xs. fields chain (one (list_tree signer_tree xs))) old new n a v (a_record chain) (λ d. d) result
reads_chain old new v n a result reads = reads_listed chain (codes "chain") (content_from_rows chain) refl chain_listed old new v n a result reads

-- ---- a whole signature

abbrev pub nothing_yet : Trees
nothing_yet = more absent (two absent absent)

module _ (v : SpecVersion) (n : OwnedName) (a : List OwnedAttribute) (ns : Namespace) (d : Depth) (p : ℕ) (nodes : Nodes) where
  abbrev this : Element
  this = record { name = n.local_name; attributes = a; namespace = ns.default; nodes = nodes; start = p; read = λ plan w e ts. nodes_read nodes plan n.local_name w e (suc p) ts }

  abbrev pub parts_read : Result Trees XmlReadError
  parts_read = each_node (plan_step signature_plan v d n.local_name) nodes (suc p) nothing_yet

  signature_is : xread (element n a ns nodes) v a_signature p d ≡ (parts_read >>= λ ts. signature_of this v ts)
  unfolding xread
  signature_is = ap (λ r. r >>= λ ts. signature_of this v ts) (each_is nodes signature_plan n.local_name v d (suc p) nothing_yet)

  pub signature_fails : (e : XmlReadError) (place : ℕ) → FailsAt e place parts_read → FailsAt e place (xread (element n a ns nodes) v a_signature p d)
  signature_fails e place h = subst (λ x. FailsAt e place x) (sym signature_is) (first_fails e place parts_read (λ ts. signature_of this v ts) h)

  pub signature_listed : (x : Signature) (r : SignerPart) → parts_read ≡ Ok (more (signature_tree x) (signer_part r)) → xread (element n a ns nodes) v a_signature p d ≡ Ok (signature_tree x)
  signature_listed (signature.Signers xs) r h = signature_is ∙ ap (λ x. x >>= λ ts. signature_of this v ts) h
  signature_listed (signature.Chain xs) r h = signature_is ∙ ap (λ x. x >>= λ ts. signature_of this v ts) h
  signature_listed (signature.Single x) r h = signature_is ∙ ap (λ x. x >>= λ ts. signature_of this v ts) h

  pub signature_single : (r : SignerPart) → parts_read ≡ Ok (more absent (signer_part r)) → xread (element n a ns nodes) v a_signature p d ≡ finished signer v n.local_name (suc (p + places_of nodes)) (signer_part r)
  signature_single r h = signature_is ∙ ap (λ x. x >>= λ ts. signature_of this v ts) h
