-- Signatures: which of the three an object is, and how each is kept and written.
use Rattle.std.proofs.Common.{◌≡◌, Bool, true, false, Result, Ok, codes, refl, sym, ◌∙◌}
use Rattle.serde_json.specs.Data.{no_members, object}
use Rattle.cdx_models.specs.declared.bom.SpecVersion.{SpecVersion}
use Rattle.cdx_models.specs.declared.bom.SpecVersion.TheVariants.{V1_3, V1_4, V1_5}
use Rattle.cdx_models.specs.Trees.{Name, signer, signers, chain, Tree, items, fields, Trees, one}
use Rattle.cdx_schema.specs.Kinds.{a_list, a_record, a_signature, signer_list, chain_list, else_empty}
use Rattle.cdx_schema.specs.Table.{rows, list}
use Rattle.cdx_schema.specs.Depth.{Depth}
use Rattle.cdx_schema.specs.Results.{◌>>=◌}
use Rattle.cdx_schema.specs.Faults.{to_member, JsonFault, under}
use Rattle.cdx_schema.specs.JsonReading.{Object, Found, nothing, a_null, found, signature_read, chain_read, record_denoted}
use Rattle.cdx_schema.specs.JsonSpelling.{jspell}
use Rattle.cdx_schema.specs.Keeping.{kept, keep}
use Rattle.cdx_json.specs.Gives.{is_found}
use Rattle.cdx_json.specs.ByRows.{read_if_found, member_of, signature_in, by_rows}
use Rattle.cdx_json.specs.KeptRows.{put_kept}
use Rattle.cdx_json.proofs.ByRowsLaws.{by_rows_are}

-- ---- reading

abbrev pub as_signers : Name → Tree → Result Tree JsonFault
as_signers n t = Ok (fields n (one t))

pub reads_signers : (o : Object) (b : Bool) (v : SpecVersion) (d : Depth) → b ≡ is_found (o (codes "signers")) → b ≡ true → signature_in o v d ≡ (member_of o (codes "signers") else_empty (a_list signer_list) v d >>= as_signers signers)
unfolding signature_in member_of
reads_signers o b v d is e = by (o (codes "signers")) (sym is ∙ e)
  where
    by : (f : Found) → is_found f ≡ true → signature_read f o v d ≡ (under (to_member (codes "signers")) (read_if_found f else_empty (a_list signer_list) v d) >>= as_signers signers)
    by nothing h = absurd cc
    by a_null h = absurd cc
    by (found read) h = refl

no_signers : (f : Found) (o : Object) (v : SpecVersion) (d : Depth) → is_found f ≡ false → signature_read f o v d ≡ chain_read (o (codes "chain")) o v d
no_signers nothing o v d h = refl
no_signers a_null o v d h = refl
no_signers (found read) o v d h = absurd cc

pub reads_chain : (o : Object) (b c : Bool) (v : SpecVersion) (d : Depth) → b ≡ is_found (o (codes "signers")) → b ≡ false → c ≡ is_found (o (codes "chain")) → c ≡ true → signature_in o v d ≡ (member_of o (codes "chain") else_empty (a_list chain_list) v d >>= as_signers chain)
unfolding signature_in member_of
reads_chain o b c v d is e at h = no_signers (o (codes "signers")) o v d (sym is ∙ e) ∙ by (o (codes "chain")) (sym at ∙ h)
  where
    by : (f : Found) → is_found f ≡ true → chain_read f o v d ≡ (under (to_member (codes "chain")) (read_if_found f else_empty (a_list chain_list) v d) >>= as_signers chain)
    by nothing h = absurd cc
    by a_null h = absurd cc
    by (found read) h = refl

pub reads_single : (o : Object) (b c : Bool) (v : SpecVersion) (d : Depth) → b ≡ is_found (o (codes "signers")) → b ≡ false → c ≡ is_found (o (codes "chain")) → c ≡ false → signature_in o v d ≡ by_rows signer o v d
unfolding signature_in
reads_single o b c v d is e at h = no_signers (o (codes "signers")) o v d (sym is ∙ e) ∙ by (o (codes "chain")) (sym at ∙ h) ∙ sym (by_rows_are signer o v d)
  where
    by : (f : Found) → is_found f ≡ false → chain_read f o v d ≡ record_denoted signer o v d
    by nothing h = refl
    by a_null h = refl
    by (found read) h = absurd cc

-- ---- keeping

pub signers_kept : (w l : SpecVersion) (t : Tree) → fields signers (one (kept w l t (a_list signer_list))) ≡ kept w l (fields signers (one t)) a_signature
unfolding kept rows
signers_kept V1_3 l t = refl
signers_kept V1_4 l t = refl
signers_kept V1_5 l t = refl

pub chain_kept : (w l : SpecVersion) (t : Tree) → fields chain (one (kept w l t (a_list chain_list))) ≡ kept w l (fields chain (one t)) a_signature
unfolding kept rows
chain_kept V1_3 l t = refl
chain_kept V1_4 l t = refl
chain_kept V1_5 l t = refl

pub single_kept : (w l : SpecVersion) (n : Name) (ts : Trees) → kept w l (fields n ts) (a_record n) ≡ kept w l (fields n ts) a_signature
unfolding kept
single_kept V1_3 l n ts = refl
single_kept V1_4 l n ts = refl
single_kept V1_5 l n ts = refl

-- ---- writing

pub signers_spelled : (w : SpecVersion) (ts : Trees) → object (put_kept (codes "signers") (a_list signer_list) (items ts) w no_members) ≡ jspell (keep w (fields signers (one (items ts))) a_signature) w a_signature
unfolding put_kept jspell kept rows
signers_spelled V1_3 ts = refl
signers_spelled V1_4 ts = refl
signers_spelled V1_5 ts = refl

pub chain_spelled : (w : SpecVersion) (ts : Trees) → object (put_kept (codes "chain") (a_list signer_list) (items ts) w no_members) ≡ jspell (keep w (fields chain (one (items ts))) a_signature) w a_signature
unfolding put_kept jspell kept rows list
chain_spelled V1_3 ts = refl
chain_spelled V1_4 ts = refl
chain_spelled V1_5 ts = refl

pub single_spelled : (w : SpecVersion) (n : Name) (ts : Trees) → jspell (keep w (fields n ts) (a_record n)) w (a_record n) ≡ jspell (keep w (fields n ts) a_signature) w a_signature
unfolding jspell kept
single_spelled V1_3 n ts = refl
single_spelled V1_4 n ts = refl
single_spelled V1_5 n ts = refl
