-- What the steps do to header and tables is what the rules do to the atlas. `Calls` states it, one theorem for each case of each call.
pub mod Stands
pub mod LeadsTo
pub mod Items
pub mod Shelves
pub mod Search
pub mod Outcome
pub mod CreateClear
pub mod Queries
pub mod UsedLinks
pub mod MergeBounds
pub mod ReleaseWrites
pub mod Release
pub mod PlaceOrRefusal
pub mod GrantWrites
pub mod GrantAtPlace
pub mod Grant
pub mod Calls
