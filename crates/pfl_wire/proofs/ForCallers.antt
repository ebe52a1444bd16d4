-- What proofs of other crates may cite of this crate's proofs; the rest of proofs/ is its own.
pub use Rattle.pfl_wire.proofs.Fields.{bind_then, ok_is, wanted_ok}
pub use Rattle.pfl_wire.proofs.Laws.{spelled_len}
pub use Rattle.pfl_wire.proofs.Left.{few_records}
unfoldable pub use Rattle.pfl_wire.proofs.Reading.{computing}
pub use Rattle.pfl_wire.proofs.RecordBytes.{le_from}
pub use Rattle.pfl_wire.proofs.Values.{one_family, proto_back, scale_back}
