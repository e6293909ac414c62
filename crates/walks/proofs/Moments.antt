-- What holds of a view whose bounds are right and in which k samples or more are entered. Assumes nothing.
pub use Rattle.walks.proofs.Bounded.{Bounded, weight_between}
pub use Rattle.walks.proofs.Settled.{settled_verdict}
pub use Rattle.walks.proofs.Alike.{listed_entered}
pub use Rattle.walks.proofs.Listed.{listed_many, listed_ratio, counted_nearest, counted_verdict, some_active}
pub use Rattle.walks.proofs.Kept.{kept, kept_enough, kept_nearest, kept_low, kept_high}
