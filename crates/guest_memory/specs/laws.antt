pub mod PageLimits
