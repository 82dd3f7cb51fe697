-- The algorithms of the JSON Signature Format, and the signer that two texts give.
use Rattle.std.specs.Prelude.{ℕ, List, codes, if◌then◌else◌}
use Rattle.std.specs.Str.{bytes_eq}
use Rattle.cdx_signature.specs.declared.signature.Algorithm.{Algorithm}
use Rattle.cdx_signature.specs.declared.signature.Algorithm.TheVariants.{RS256, RS384, RS512, PS256, PS384, PS512, ES256, ES384, ES512, Ed25519, Ed448, HS256, HS384, HS512, Unknown}
use Rattle.cdx_signature.specs.declared.signature.Signer.{Signer}

abbrev pub algorithm_name : Algorithm → List ℕ
algorithm_name RS256 = codes "RS256"
algorithm_name RS384 = codes "RS384"
algorithm_name RS512 = codes "RS512"
algorithm_name PS256 = codes "PS256"
algorithm_name PS384 = codes "PS384"
algorithm_name PS512 = codes "PS512"
algorithm_name ES256 = codes "ES256"
algorithm_name ES384 = codes "ES384"
algorithm_name ES512 = codes "ES512"
algorithm_name Ed25519 = codes "Ed25519"
algorithm_name Ed448 = codes "Ed448"
algorithm_name HS256 = codes "HS256"
algorithm_name HS384 = codes "HS384"
algorithm_name HS512 = codes "HS512"
algorithm_name (Unknown s) = s

-- the algorithm with a name
abbrev pub algorithm_of : List ℕ → Algorithm
algorithm_of s =
    if bytes_eq s (codes "RS256") then RS256 else (
    if bytes_eq s (codes "RS384") then RS384 else (
    if bytes_eq s (codes "RS512") then RS512 else (
    if bytes_eq s (codes "PS256") then PS256 else (
    if bytes_eq s (codes "PS384") then PS384 else (
    if bytes_eq s (codes "PS512") then PS512 else (
    if bytes_eq s (codes "ES256") then ES256 else (
    if bytes_eq s (codes "ES384") then ES384 else (
    if bytes_eq s (codes "ES512") then ES512 else (
    if bytes_eq s (codes "Ed25519") then Ed25519 else (
    if bytes_eq s (codes "Ed448") then Ed448 else (
    if bytes_eq s (codes "HS256") then HS256 else (
    if bytes_eq s (codes "HS384") then HS384 else (
    if bytes_eq s (codes "HS512") then HS512 else Unknown s)))))))))))))

abbrev pub signer_of : List ℕ → List ℕ → Signer
signer_of algorithm value = record { algorithm = algorithm_of algorithm; value = value }
