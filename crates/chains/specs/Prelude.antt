-- What other files bring from the specs of `chains`, in one place. It states nothing of its own. Assumes nothing.
pub use Rattle.chains.specs.Lists.{◌∈◌, ◌iff◌, Distinct, Apart, Each, Neighbours, gather, Focus, back_onto}
pub use Rattle.chains.specs.Chain.{Kind, first_row, first_of, Chain}
pub use Rattle.chains.specs.Walk.{rows_from, Ends, EndsFrom, Holds, Walk}
