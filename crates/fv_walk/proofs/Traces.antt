-- What is shown of traces: what a stack owes, how it is built, what a walk along it finds.
pub use Rattle.fv_walk_traces.proofs.Owing.{Skips, ask_owes, drop_all, last_owes, opened, step_owes, with_left}
pub use Rattle.fv_walk_traces.proofs.Stacked.{begins, ended_failed, flagged, no_rank_left, ons, took_rank, took_rank_weighs, took_step, took_step_weighs}
pub use Rattle.fv_walk_traces.proofs.Walked.{arrives_many, enters_many, finds_all}
