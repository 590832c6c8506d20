pub mod Drafts
pub mod CutRuns
pub mod SweepEnds
pub mod ReadBack
