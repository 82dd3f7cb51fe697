pub mod FloatSearch
pub mod Left
pub mod Others
pub mod ReadTo
