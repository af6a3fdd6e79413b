pub mod InquiryLemmas
pub mod LawLemmas
