pub mod Frame
pub mod Area
pub mod AreaView
pub mod ScanView
pub mod Reports
pub mod Rest
pub mod Faults
