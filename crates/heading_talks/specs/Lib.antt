pub mod HeadingFrames
pub mod HeadingViews
pub mod FrontLaws
pub mod Headings
pub mod HeadingTalks
pub mod Courses
