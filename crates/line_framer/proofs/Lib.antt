pub mod FeedingLemmas
pub mod FramingLemmas
pub mod PlaceLemmas
pub mod ScanningLemmas
