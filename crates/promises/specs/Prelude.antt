-- What other files bring from the specs of `promises`, in one place. It states nothing of its own. Assumes nothing.
unfoldable pub use Rattle.promises.specs.Answers.{says, numbers_of}
unfoldable pub use Rattle.promises.specs.Answering.{creations, grants, replies, areas, extents, vacancies, listings}
unfoldable pub use Rattle.promises.specs.Records.{records, written, items_told, counted, filled}
pub use Rattle.promises.specs.Promises.{Promises, Tells, ListedSo}
unfoldable pub use Rattle.promises.specs.Promises.{Creates, Allocates, Releases, Clears, LooksUp, TellsOccupied, TellsFreeSpace, TellsSize, TellsEmpty}
unfoldable pub use Rattle.promises.specs.Promises.{Lists}
