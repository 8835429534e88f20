-- A host's header, and the header that it is. Assumes nothing.
use Rattle.std.specs.Prelude.{◌≡◌}
use Rattle.numbers.specs.Library.{refl}
use Rattle.rows.specs.declared.header.Header.{Header}
use Rattle.hosts.specs.declared.values.AtlasHeader.{AtlasHeader}

abbrev pub header_of : AtlasHeader → Header
header_of h = record {
  limits = record {
    width = h.width;
    height = h.height;
    align_width = h.align_width;
    align_height = h.align_height;
    vertical = h.vertical;
    shelf_width = h.shelf_width;
  };
  used_shelves = h.used_shelves;
  used_items = h.used_items;
  free_items = record { 0 = h.free_items };
  free_shelves = record { 0 = h.free_shelves };
  occupied = h.occupied;
}

abbrev pub host_header : Header → AtlasHeader
host_header h = record {
  width = h.limits.width;
  height = h.limits.height;
  align_width = h.limits.align_width;
  align_height = h.limits.align_height;
  vertical = h.limits.vertical;
  shelf_width = h.limits.shelf_width;
  used_shelves = h.used_shelves;
  used_items = h.used_items;
  free_items = h.free_items.0;
  free_shelves = h.free_shelves.0;
  occupied = h.occupied;
}

-- what goes out comes in again
pub out_and_in : (h : Header) → header_of (host_header h) ≡ h
out_and_in h = refl

pub in_and_out : (h : AtlasHeader) → host_header (header_of h) ≡ h
in_and_out h = refl
