-- The data of a service, and its entries.
use Rattle.std.specs.Prelude.{◌≡◌, refl, suc, ◌+◌, Result, Ok, Err}
use Rattle.std.proofs.Common.{ap, ◌∙◌}
use Rattle.cdx_models.specs.declared.errors.XmlReadError.{XmlReadError}
use Rattle.cdx_models.specs.Entries.{entry_of}
use Rattle.cdx_models.specs.Trees.{service_data, Tree, Trees, absent, two}
use Rattle.cdx_schema.specs.Kinds.{a_record, a_data, an_entry}
use Rattle.cdx_schema.specs.Nodes.{places_of}
use Rattle.cdx_schema.specs.Results.{◌>>=◌}
use Rattle.cdx_schema.specs.XmlReading.{record_plan, data_plan, data_of, xread}
use Rattle.cdx_schema.proofs.FaultPlaces.{ok_err, bind_err}
use Rattle.cdx_leaf.specs.RowContents.{content_from_rows}
use Rattle.cdx_machine.specs.Contents.{First}
use Rattle.cdx_machine.specs.Frames.{Last, IsFrame, read_so_far}
use Rattle.cdx_machine.specs.Plain.{attributes_first}
use Rattle.cdx_machine.specs.Records.{record_end, record_frame}

abbrev pub entry_last : Last
entry_last el v q ts = record_end service_data el v q ts >>= λ t. Ok (entry_of t)

as_entry : (r : Result Trees XmlReadError) (f : Trees → Result Tree XmlReadError) → ((r >>= f) >>= λ t. Ok (entry_of t)) ≡ (r >>= λ ts. f ts >>= λ t. Ok (entry_of t))
as_entry (Ok ts) f = refl
as_entry (Err e) f = refl

flow : IsFrame (a_record service_data) (record_plan service_data) (attributes_first service_data) (record_end service_data)
flow = record_frame service_data (content_from_rows service_data) refl

pub entry_frame : IsFrame an_entry (record_plan service_data) (attributes_first service_data) entry_last
unfolding xread
entry_frame = record {
  reads = λ n a s xs v p d.
      ap (λ r. r >>= λ t. Ok (entry_of t)) (flow.reads n a s xs v p d)
      ∙ as_entry (read_so_far (attributes_first service_data) (record_plan service_data) n.local_name a v d p xs) (λ ts. record_end service_data n.local_name v (suc (p + places_of xs)) ts);
  first_place = flow.first_place;
  last_place = λ el v q ts f h. bind_err (record_end service_data el v q ts) (λ t. Ok (entry_of t)) f h (λ e. flow.last_place el v q ts f e) (λ t i j. ok_err j);
}

abbrev pub data_first : First
data_first el a v p = Ok (two absent absent)

abbrev pub data_last : Last
data_last el v q ts = Ok (data_of ts)

pub data_frame : IsFrame a_data data_plan data_first data_last
unfolding xread
data_frame = record { reads = λ n a s xs v p d. refl; first_place = λ el a v p f h. ok_err h; last_place = λ el v q ts f h. ok_err h }
