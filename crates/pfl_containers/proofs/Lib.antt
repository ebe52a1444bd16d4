-- indexes of slots by tags
pub mod Found
pub mod SlotHomes
pub mod SlotTagged
pub mod SlotEntries
pub mod SlotFields
pub mod SlotSpread
-- maps in the order of their keys
pub mod OrderEntries
pub mod Sorted
pub mod Searching
pub mod Balances
pub mod Standing
pub mod Changing
pub mod Filling
pub mod Mapping
-- lists linked by slots
pub mod Links
pub mod Paths
pub mod Walked
pub mod RingNodes
pub mod Unlinked
pub mod Inserted
pub mod Kept
pub mod Valued
pub mod WalkEntries
pub mod Views
pub mod Made
pub mod Places
-- finite maps whose values are replaced, and maps of slots by the keys of values
pub mod Mapped
pub mod SlotIndexes
pub mod SlotTags
pub mod ForCallers
