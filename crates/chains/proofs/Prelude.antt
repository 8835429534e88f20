-- What other files bring from the proofs of `chains`, in one place. It states nothing of its own. Assumes nothing.
pub use Rattle.chains.proofs.Lists.{not_out, distinct_within, distinct_below, dec_memᴰ, distinct_cover, distinct_append, distinct_left, distinct_right}
pub use Rattle.chains.proofs.Lists.{distinct_apart}
pub use Rattle.chains.proofs.Chains.{onto_apart, apart_onto, in_onto, onto_in, gather_onto, onto_map, within, parts_apart, self, each_split, each_join}
pub use Rattle.chains.proofs.Chains.{each_frame, rows_of, chain_split, first_onto, ne_first, first_in, chain_any, chain_frame, relink_after}
pub use Rattle.chains.proofs.Chains.{chain_replace}
pub use Rattle.chains.proofs.Changes.{chain_insert, chain_drop, chain_remove, chain_swap, rows_insert, rows_drop}
pub use Rattle.chains.proofs.Ends.{ends_below, ends_distinct, ends_length, ends_rows, Onward, ends_onward, rows_among, ends_among}
pub use Rattle.chains.proofs.Walks.{holds_view, walk_each, walk_map, rows_alike, walk_alike}
pub use Rattle.chains.proofs.Members.{each_at, each_from, each_map, each_both, gather_in, in_gather, gather_distinct, counts_cover, cover_counts}
pub use Rattle.chains.proofs.Turns.{Deciding, begins, no_fuel, outside, wrong, onward, ended, unended, met_step, met_end, met_out, Eaching, each_begins}
pub use Rattle.chains.proofs.Turns.{each_wrong, each_onward, each_ended, each_out, Lasting, lasts, lasted, last_ended}
